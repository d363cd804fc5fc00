use Rattle.std.proofs.Common.{◌∙◌, ◌+◌, ap, arith, take}
use Rattle.std.proofs.lemmas.List.{take_all}
use Rattle.line_words.specs.Digits.{value_of}
use Rattle.line_words.proofs.DigitLaws.{value_of_more, value_of-take-le, held, not_held}
use Rattle.line_words.proofs.numbers.small_value.Goals as goal

pub returns-then-longer-from : goal.returns-then-longer-from
returns-then-longer-from c =
    let i = c.loop-digit.digit-index in
    not_held _ (value_of (take (i + 1) c.args.digits.now)) (value_of-take-le c.args.digits.now (i + 1))
    (omega (arith, value_of_more c.args.digits.now i (omega arith), c.loop-digit.invariant.so_far))

pub loop-digit-preserved : goal.loop-digit-preserved
loop-digit-preserved c =
    let i = c.loop-digit.digit-index in
    record {
      fits = omega arith;
      so_far = omega (arith, value_of_more c.args.digits.now i (omega arith), c.loop-digit.invariant.so_far);
    }

pub returns : goal.returns
returns c =
    held _ _ (c.loop-digit.invariant.so_far ∙ ap value_of (take_all c.loop-digit.digit-index c.args.digits.now (omega arith))) c.loop-digit.invariant.fits
