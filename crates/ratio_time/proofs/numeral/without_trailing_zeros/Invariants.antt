use Rattle.std.proofs.Common.{◌≡◌, ◌≤◌, ◌-◌, ◌*◌, ◌^◌}
use Rattle.ratio_time.proofs.numeral.without_trailing_zeros.Given as goal

abbrev pub invariant-loop-places : goal.invariant-loop-places
invariant-loop-places l = record {
  places : l.places ≤ l.fn.places;
  no_greater : l.digits ≤ l.fn.digits;
  value : l.digits * 10 ^ (l.fn.places - l.places) ≡ l.fn.digits;
}

abbrev pub decreases-loop-places : goal.decreases-loop-places
decreases-loop-places l = l.places
