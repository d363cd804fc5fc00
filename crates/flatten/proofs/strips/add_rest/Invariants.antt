use Rattle.std.proofs.Common.{◌≡◌, ◌++◌, length}
use Rattle.flatten.specs.Strips.{AreFit, IsSpot, frames_of, left_from}
use Rattle.flatten.proofs.strips.add_rest.Given as goal

abbrev pub invariant-loop-run : goal.invariant-loop-run
invariant-loop-run l = record {
  all : AreFit l.all;
  spot : IsSpot l.runs l.here;
  added : frames_of l.all ++ left_from l.runs l.here ≡ frames_of l.fn.all ++ left_from l.runs l.fn.spot;
}

abbrev pub decreases-loop-run : goal.decreases-loop-run
decreases-loop-run l = length (left_from l.runs l.here)
