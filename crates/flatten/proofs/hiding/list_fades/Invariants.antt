use Rattle.std.proofs.Common.{◌≡◌, ◌+◌, ◌++◌, drop, length}
use Rattle.flatten.specs.Marks.{fades_from}
use Rattle.flatten.specs.Strips.{frames_of}
use Rattle.flatten.proofs.hiding.list_fades.Given as goal

abbrev pub invariant-loop-run : goal.invariant-loop-run
invariant-loop-run l = record {
  same : l.all ++ fades_from l.at (drop l.run-index l.marks) ≡ fades_from 0 l.marks;
  left : l.at + length (frames_of (drop l.run-index l.marks)) ≡ length (frames_of l.marks);
}
