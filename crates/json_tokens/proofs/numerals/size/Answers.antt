use Rattle.std.proofs.Common.{arith, ◌-◌, get_or, take}
use Rattle.json_tokens.specs.Decimal.{number_of}
use Rattle.json_tokens.proofs.Digits.{number_more, digit_in}
use Rattle.json_tokens.proofs.Kept.{size_more, size_stays}
use Rattle.json_tokens.proofs.numerals.size.Goals as goal
use Rattle.json_tokens.proofs.numerals.size.Goals.{then-size-lt-FAR, else-size-lt-FAR}

pub loop-digit-preserved : goal.loop-digit-preserved
loop-digit-preserved c =
    let i = c.loop-digit.digit-index in
    let ds = c.args.digits.now in
    let more = number_more 0 ds i c.loop-digit-test.true in
    let digit = digit_in ds i c.requires c.loop-digit-test.true in
    elim c.if-size-lt-FAR.branch [
      | then-size-lt-FAR w ↦ (rw (w.size-is, more) (size_more c.loop-digit.size (number_of (take i ds)) (get_or ds i 0 - 48) c.loop-digit.invariant.0 w.if-size-lt-FAR.true), rw w.size-is (omega (arith, digit.1)))
      | else-size-lt-FAR w ↦ (rw (w.size-is, more) (size_stays c.loop-digit.size (number_of (take i ds)) (get_or ds i 0 - 48) c.loop-digit.invariant.0 w.if-size-lt-FAR.false), rw w.size-is c.loop-digit.invariant.1)
    ]
