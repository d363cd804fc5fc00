use Rattle.std.proofs.Common.{◌≡◌, ◌++◌, ◌+◌, ◌*◌, drop, map}
use Rattle.json_tree.specs.Writing.{commas, tree_text, member_text}
use Rattle.json_tree.specs.View.{tree_of, member_of}
use Rattle.json_tree.specs.Size.{tree_size, items_size, named_size}
use Rattle.json_tree.proofs.writing.+put.Given as goal

abbrev pub decreases-put_tree : goal.decreases-put_tree
decreases-put_tree l = 6 * tree_size (tree_of l.tree.now)

abbrev pub decreases-put_member : goal.decreases-put_member
decreases-put_member l = 6 * tree_size (tree_of l.member.now.value) + 1

abbrev pub decreases-put_other_items : goal.decreases-put_other_items
decreases-put_other_items l = 6 * items_size (map tree_of l.others.now) + 2

abbrev pub decreases-put_other_members : goal.decreases-put_other_members
decreases-put_other_members l = 6 * named_size (map member_of l.others.now) + 2

abbrev pub decreases-put_joined_items : goal.decreases-put_joined_items
decreases-put_joined_items l = 6 * items_size (map tree_of l.items.now) + 3

abbrev pub decreases-put_joined_members : goal.decreases-put_joined_members
decreases-put_joined_members l = 6 * named_size (map member_of l.members.now) + 3

abbrev pub decreases-put_items : goal.decreases-put_items
decreases-put_items l = 6 * items_size l.items.now + 4

abbrev pub decreases-put_members : goal.decreases-put_members
decreases-put_members l = 6 * named_size l.members.now + 4

abbrev pub invariant-put_other_items-loop-item : goal.invariant-put_other_items-loop-item
invariant-put_other_items-loop-item l = l.out.items ++ commas (map tree_text (map tree_of (drop l.item-index l.others))) ≡ l.fn.out.items ++ commas (map tree_text (map tree_of l.others))

abbrev pub invariant-put_other_members-loop-member : goal.invariant-put_other_members-loop-member
invariant-put_other_members-loop-member l = l.out.items ++ commas (map member_text (map member_of (drop l.member-index l.others))) ≡ l.fn.out.items ++ commas (map member_text (map member_of l.others))
