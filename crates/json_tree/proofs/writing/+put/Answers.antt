use Rattle.std.proofs.Common.{◌≤◌, arith, map}
use Rattle.json_tree.specs.View.{tree_of, member_of}
use Rattle.json_tree.specs.Size.{tree_size, items_size, named_size}
use Rattle.json_tree.proofs.WritingSteps.{texts_are, named_texts_are, item_within, member_within}
use Rattle.json_tree.proofs.writing.+put.Goals as goal

pub put_other_items-put_tree-requires : goal.put_other_items-put_tree-requires
put_other_items-put_tree-requires t c =
    let h : tree_size (tree_of c.item-item.result) ≤ items_size (map tree_of c.args.others.now) = rw c.item-item.is (item_within c.args.others.now c.loop-item.item-index c.item-item.result c.loop-item-test.true) in
    (omega arith, tt)

pub put_other_members-put_member-requires : goal.put_other_members-put_member-requires
put_other_members-put_member-requires t c =
    let h : tree_size (tree_of c.member-item.result.value) ≤ named_size (map member_of c.args.others.now) = rw c.member-item.is (member_within c.args.others.now c.loop-member.member-index c.member-item.result c.loop-member-test.true) in
    (omega arith, tt)

pub put_tree-returns-in-List : goal.put_tree-returns-in-List
put_tree-returns-in-List t c = rw (c.in-List.is, texts_are c.in-List.items) c.put_items.ensures

pub put_tree-returns-in-Object : goal.put_tree-returns-in-Object
put_tree-returns-in-Object t c = rw (c.in-Object.is, named_texts_are c.in-Object.members) c.put_members.ensures
