use Rattle.std.proofs.Common.{◌≡◌, ◌+◌, ◌-◌, ◌≤◌, drop, length}
use Rattle.composables.specs.Items.{items_of}
use Rattle.edit_trim.proofs.LinkedRooms.{RoomFront}
use Rattle.edit_trim.proofs.linked_slips.room_on.Given as goal

abbrev pub invariant-loop-index : goal.invariant-loop-index
invariant-loop-index g l = record {
  within : l.index ≤ length (items_of l.track.cells);
  items : l.items ≡ drop l.index (items_of l.track.cells);
  room : RoomFront l.table l.link l.index (items_of l.track.cells) l.room;
  from : l.fn.steps ≤ l.steps;
  most : l.steps ≤ l.fn.steps + l.index;
}

abbrev pub decreases-loop-index : goal.decreases-loop-index
decreases-loop-index g l = length (items_of l.track.cells) - l.index
