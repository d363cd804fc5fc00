use Rattle.std.proofs.Common.{ap, sym, ◌∙◌}
use Rattle.json_tree.specs.Tree.{last_named}
use Rattle.json_tree.specs.View.{tree_of}
use Rattle.json_tree.specs.Size.{named_size}
use Rattle.json_tree.proofs.ValueLaws.{members_back}
use Rattle.json_tree.proofs.Smaller.{found_smaller, within}
use Rattle.json_tree.proofs.tree.Json.member.Goals as goal

pub returns-in-Object-clause-member : goal.returns-in-Object-clause-member
returns-in-Object-clause-member c = rw (c.in-Object.is) (c.find.ensures ∙ ap (last_named c.args.name.now) (sym (members_back c.in-Object.members)))

pub returns-in-Object-clause-smaller : goal.returns-in-Object-clause-smaller
returns-in-Object-clause-smaller c = rw (c.in-Object.is) (within (λ j. tree_of j.now) c.find.result (named_size c.in-Object.members) (found_smaller (λ j. tree_of j.now) c.args.name.now c.in-Object.members c.find.result c.find.ensures))
