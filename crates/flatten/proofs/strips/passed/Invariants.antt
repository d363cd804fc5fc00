use Rattle.std.proofs.Common.{◌≡◌, drop}
use Rattle.flatten.specs.Strips.{IsSpot, left_from}
use Rattle.flatten.proofs.strips.passed.Given as goal

abbrev pub invariant-loop-left : goal.invariant-loop-left
invariant-loop-left l = record {
  spot : IsSpot l.runs l.here;
  frames : drop l.left (left_from l.runs l.here) ≡ drop l.n (left_from l.runs l.fn.spot);
}

abbrev pub decreases-loop-left : goal.decreases-loop-left
decreases-loop-left l = l.left
