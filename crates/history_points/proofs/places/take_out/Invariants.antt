use Rattle.std.proofs.Common.{◌+◌, ◌≤◌, length}
use Rattle.std.specs.Vec.{vec_len, vec_capacity}
use Rattle.history_points.proofs.Slotted.{Taking}
use Rattle.history_points.proofs.places.take_out.Given as goal

abbrev pub invariant-loop-name : goal.invariant-loop-name
invariant-loop-name g l = record {
  room : vec_len l.named + length l.names ≤ vec_capacity l.named + l.name-index;
  taking : Taking l.fn.slots.items l.names l.name-index l.slots.items l.named.items;
}
