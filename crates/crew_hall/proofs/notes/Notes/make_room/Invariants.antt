use Rattle.std.proofs.Common.{◌≡◌, ◌≤◌, ◌+◌, ◌-◌, ℕ, length, max, vec_len}
use Rattle.room_halls.specs.Stations.{note_of}
use Rattle.crew_hall.proofs.notes.Notes.make_room.Given as goal

abbrev pub invariant-loop-self : goal.invariant-loop-self
invariant-loop-self l = record {
  within : vec_len l.self-inside.notes ≤ max (length l.fn.self) (l.station + 1);
  same : (s : ℕ) → note_of l.self-inside.notes.items s ≡ note_of l.fn.self s;
}

abbrev pub decreases-loop-self : goal.decreases-loop-self
decreases-loop-self l = l.station + 1 - vec_len l.self-inside.notes
