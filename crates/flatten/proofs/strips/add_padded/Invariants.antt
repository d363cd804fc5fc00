use Rattle.std.proofs.Common.{◌≡◌, ◌++◌, drop}
use Rattle.flatten.specs.Strips.{AreFit, IsSpot, frames_of, left_from, padded}
use Rattle.flatten.proofs.strips.add_padded.Given as goal

abbrev pub invariant-loop-left : goal.invariant-loop-left
invariant-loop-left l = record {
  all : AreFit l.all;
  spot : IsSpot l.runs l.here;
  frames : drop l.left (left_from l.runs l.here) ≡ drop l.n (left_from l.runs l.fn.spot);
  added : frames_of l.all ++ padded l.left (left_from l.runs l.here) ≡ frames_of l.fn.all ++ padded l.n (left_from l.runs l.fn.spot);
}

abbrev pub decreases-loop-left : goal.decreases-loop-left
decreases-loop-left l = l.left
