use Rattle.std.proofs.Common.{arith}
use Rattle.json_tokens.proofs.Digits.{number_more}
use Rattle.json_tokens.proofs.numerals.with_digits.Goals as goal

pub loop-digit-preserved : goal.loop-digit-preserved
loop-digit-preserved c = (
  λ n h. rw (number_more n c.args.digits.now c.loop-digit.digit-index c.loop-digit-test.true) (c.with_digit-number.ensures.number _ (c.loop-digit.invariant.0 n h)),
  omega (arith, c.with_digit-number.ensures.zeros, c.loop-digit.invariant.1),
  c.with_digit-number.ensures.size,
)
