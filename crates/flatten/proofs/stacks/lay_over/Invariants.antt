use Rattle.std.proofs.Common.{◌≡◌, ◌++◌, drop}
use Rattle.flatten.specs.Strips.{AreFit, IsSpot, frames_of, laid_over, left_from}
use Rattle.flatten.proofs.stacks.lay_over.Given as goal

abbrev pub invariant-loop-run : goal.invariant-loop-run
invariant-loop-run l = record {
  all : AreFit l.all;
  spot : IsSpot l.lower l.spot;
  same : frames_of l.all ++ laid_over (frames_of (drop l.run-index l.upper)) (left_from l.lower l.spot) ≡ laid_over (frames_of l.upper) (frames_of l.lower);
}
