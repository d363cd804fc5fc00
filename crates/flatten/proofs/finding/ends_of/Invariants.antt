use Rattle.std.proofs.Common.{◌≡◌, ◌+◌, ◌++◌, drop, length}
use Rattle.flatten.specs.Ends.{ends_of}
use Rattle.flatten.specs.Strips.{frames_of}
use Rattle.flatten.proofs.finding.ends_of.Given as goal

abbrev pub invariant-loop-run : goal.invariant-loop-run
invariant-loop-run l = record {
  same : l.ends ++ ends_of l.at (drop l.run-index l.runs) ≡ ends_of 0 l.runs;
  left : l.at + length (frames_of (drop l.run-index l.runs)) ≡ length (frames_of l.runs);
}
