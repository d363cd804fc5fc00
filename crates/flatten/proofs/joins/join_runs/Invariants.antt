use Rattle.std.proofs.Common.{◌≡◌, ◌+◌, ◌≤◌, ◌++◌, drop, length}
use Rattle.flatten.specs.Channels.{maximal_runs}
use Rattle.flatten.specs.Strips.{IsHeld, frames_of, held_frames}
use Rattle.flatten.proofs.joins.join_runs.Given as goal

abbrev pub invariant-loop-run : goal.invariant-loop-run
invariant-loop-run l = record {
  held : IsHeld l.held;
  short : length (held_frames l.held) + length (frames_of (drop l.run-index l.strip)) ≤ length (frames_of l.strip);
  same : l.all ++ maximal_runs (held_frames l.held ++ frames_of (drop l.run-index l.strip)) ≡ maximal_runs (frames_of l.strip);
}
