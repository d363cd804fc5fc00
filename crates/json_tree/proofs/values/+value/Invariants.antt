use Rattle.std.proofs.Common.{◌≡◌, ◌+◌, ◌*◌, ◌-◌, length}
use Rattle.json_tree.specs.ReadingValues.{elements_at, item_at, member_at, value_at}
use Rattle.json_tree.proofs.ListLoop.{with_front}
use Rattle.json_tree.proofs.values.+value.Given as goal

abbrev pub decreases-list : goal.decreases-list
decreases-list l = 8 * l.levels + 0

abbrev pub decreases-object : goal.decreases-object
decreases-object l = 8 * l.levels + 0

abbrev pub decreases-kind : goal.decreases-kind
decreases-kind l = 8 * l.levels + 1

abbrev pub decreases-value : goal.decreases-value
decreases-value l = 8 * l.levels + 2

abbrev pub decreases-item : goal.decreases-item
decreases-item l = 8 * l.levels + 3

abbrev pub decreases-member : goal.decreases-member
decreases-member l = 8 * l.levels + 4

abbrev pub decreases-some_items : goal.decreases-some_items
decreases-some_items l = 8 * l.levels + 5

abbrev pub decreases-some_members : goal.decreases-some_members
decreases-some_members l = 8 * l.levels + 5

abbrev pub decreases-items : goal.decreases-items
decreases-items l = 8 * l.levels + 6

abbrev pub decreases-members : goal.decreases-members
decreases-members l = 8 * l.levels + 6

abbrev pub decreases-list_inside : goal.decreases-list_inside
decreases-list_inside l = 8 * l.levels + 7

abbrev pub decreases-object_inside : goal.decreases-object_inside
decreases-object_inside l = 8 * l.levels + 7

abbrev pub invariant-some_items-loop : goal.invariant-some_items-loop
invariant-some_items-loop l = with_front l.items (elements_at (item_at (value_at l.levels)) 93 (l.most - l.counter) l.rest.at l.rest.bytes.now) ≡ elements_at (item_at (value_at l.levels)) 93 (length l.fn.rest.bytes.now) l.fn.rest.at l.fn.rest.bytes.now

abbrev pub invariant-some_members-loop : goal.invariant-some_members-loop
invariant-some_members-loop l = with_front l.members (elements_at (member_at (value_at l.levels)) 125 (l.most - l.counter) l.rest.at l.rest.bytes.now) ≡ elements_at (member_at (value_at l.levels)) 125 (length l.fn.rest.bytes.now) l.fn.rest.at l.fn.rest.bytes.now
