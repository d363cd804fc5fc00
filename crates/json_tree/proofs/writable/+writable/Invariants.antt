use Rattle.std.proofs.Common.{◌≡◌, ◌+◌, ◌*◌, drop, map}
use Rattle.json_tree.specs.Sound.{are_writable, are_members_writable}
use Rattle.json_tree.specs.Tree.{trees, members}
use Rattle.json_tree.specs.View.{tree_of, member_of}
use Rattle.json_tree.proofs.writable.+writable.Given as goal

abbrev pub decreases-is_tree_writable : goal.decreases-is_tree_writable
decreases-is_tree_writable l = 2 * l.levels

abbrev pub decreases-are_writable : goal.decreases-are_writable
decreases-are_writable l = 2 * l.levels + 1

abbrev pub decreases-are_members_writable : goal.decreases-are_members_writable
decreases-are_members_writable l = 2 * l.levels + 1

abbrev pub invariant-are_writable-loop-item : goal.invariant-are_writable-loop-item
invariant-are_writable-loop-item l = are_writable (trees (map tree_of (drop l.item-index l.items))) l.levels ≡ are_writable (trees (map tree_of l.items)) l.levels

abbrev pub invariant-are_members_writable-loop-member : goal.invariant-are_members_writable-loop-member
invariant-are_members_writable-loop-member l = are_members_writable (members (map member_of (drop l.member-index l.named))) l.levels ≡ are_members_writable (members (map member_of l.named)) l.levels
