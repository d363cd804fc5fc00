use Rattle.std.proofs.Common.{Some, ap, sym, ◌∙◌}
use Rattle.json_tree.proofs.ValueLaws.{trees_back}
use Rattle.json_tree.proofs.tree.Json.items.Goals as goal

pub returns-in-List-clause-items : goal.returns-in-List-clause-items
returns-in-List-clause-items c = rw (c.in-List.is) (ap Some (c.as_slice.ensures.list ∙ sym (trees_back c.in-List.items)))
