use Rattle.std.proofs.Common.{◌++◌, ap, ◌∙◌}
use Rattle.json_tree.specs.Writing.{tree_text}
use Rattle.json_tree.specs.View.{tree_of}
use Rattle.json_tree.proofs.WriteLaws.{spelled_again}
use Rattle.json_tree.proofs.writing.write.Goals as goal

pub returns-clause-spelled : goal.returns-clause-spelled
returns-clause-spelled c =
    spelled_again (tree_of c.args.tree.now) 64 c.put_tree.new.out.items c.requires c.keeps_utf8_and_least_places.ensures
    (c.in_ok-put_tree.ensures ∙ ap (λ l. l ++ tree_text (tree_of c.args.tree.now)) c.new-out.ensures.items)
