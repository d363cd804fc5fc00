use Rattle.std.proofs.Common.{◌∙◌, arith}
use Rattle.ratio_time.proofs.Zeros.{one_more}
use Rattle.ratio_time.proofs.numeral.without_trailing_zeros.Goals as goal

pub loop-places-preserved : goal.loop-places-preserved
loop-places-preserved c = record {
  places = omega arith;
  no_greater = omega arith;
  value = one_more _ _ _ c.loop-places-test.true c.loop-places.invariant.places c.if-digits-eq0.true ∙ c.loop-places.invariant.value;
}
