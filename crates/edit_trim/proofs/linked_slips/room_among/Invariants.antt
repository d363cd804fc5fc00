use Rattle.std.proofs.Common.{◌+◌, ◌≤◌, take, sum_by}
use Rattle.composables.specs.Sizes.{size_of}
use Rattle.edit_trim.specs.LinkedSlips.{RoomAmong}
use Rattle.edit_trim.proofs.linked_slips.room_among.Given as goal

abbrev pub invariant-loop-track : goal.invariant-loop-track
invariant-loop-track g l = record {
  room : RoomAmong l.table l.link (take l.track-index l.named) l.room;
  from : l.fn.steps ≤ l.steps;
  most : l.steps ≤ l.fn.steps + sum_by size_of (take l.track-index l.named);
}
