use Rattle.std.proofs.Common.{◌≤◌, ◌-◌}
use Rattle.seat_lines.proofs.Fronts.{Found}
use Rattle.seat_lines.proofs.cut.first_lines.Given as goal

abbrev pub invariant-loop-at : goal.invariant-loop-at
invariant-loop-at l = record {
  within : l.at ≤ l.may;
  most : l.front.lines ≤ l.most;
  found : Found l.text l.at l.front.lines l.front.bytes;
}

abbrev pub decreases-loop-at : goal.decreases-loop-at
decreases-loop-at l = l.may - l.at
