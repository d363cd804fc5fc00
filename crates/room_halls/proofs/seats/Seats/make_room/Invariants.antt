use Rattle.std.proofs.Common.{◌≡◌, ◌≤◌, ◌+◌, ◌-◌, ℕ, length, max, vec_len}
use Rattle.room_halls.specs.Stations.{note_of}
use Rattle.room_halls.proofs.seats.Seats.make_room.Given as goal

abbrev pub invariant-loop-self : goal.invariant-loop-self
invariant-loop-self g l = record {
  within : vec_len l.self-inside.notes ≤ max (length l.fn.self) (l.station + 1);
  same : (s : ℕ) → note_of l.self-inside.notes.items s ≡ note_of l.fn.self s;
}

abbrev pub decreases-loop-self : goal.decreases-loop-self
decreases-loop-self g l = l.station + 1 - vec_len l.self-inside.notes
