use Rattle.std.proofs.Common.{◌≡◌, ◌≤◌, ◌⊎◌, refl, true, inl, inr, arith, ap, ◌+◌, ◌*◌}
use Rattle.json_tokens.proofs.Steps.{holds_zero, holds_more, holds_wide, holds_next}
use Rattle.json_tokens.proofs.numerals.with_digit.Goals as goal
use Rattle.json_tokens.proofs.numerals.with_digit.Goals.{then-number-via-then-number, then-number-via-else-number+then-number-gt17}

pub returns-then-digit-eq0-clause-number : goal.returns-then-digit-eq0-clause-number
returns-then-digit-eq0-clause-number c = λ n h. holds_zero c.args.number c.with_zero.result n c.args.digit c.if-digit-eq0.true c.with_zero.ensures.kept c.with_zero.ensures.zeros c.with_zero.ensures.too_many h

pub returns-then-number-clause-number : goal.returns-then-number-clause-number
returns-then-number-clause-number c = λ n h.
    let far : (c.args.number.too_many ≡ true) ⊎ (18 ≤ c.args.number.zeros) =
    elim c.then-number.branch [ then-number-via-then-number w ↦ inl w.if-number.true | then-number-via-else-number+then-number-gt17 w ↦ inr (omega arith) ] in
    holds_more c.args.number c.with_too_many.result n c.args.digit (omega arith) c.requires.digit far c.with_too_many.ensures h

pub returns-then-wide-ge-LIMIT-clause-number : goal.returns-then-wide-ge-LIMIT-clause-number
returns-then-wide-ge-LIMIT-clause-number c = λ n h.
    holds_wide c.args.number c.with_too_many-then-wide-ge-LIMIT.result n c.args.digit _ (omega arith) c.requires.digit c.if-number.false
    (ap (λ p. c.args.number.kept * p + c.args.digit) c.power_of_ten-power.ensures.value) c.if-wide-ge-LIMIT.true c.with_too_many-then-wide-ge-LIMIT.ensures h

pub returns-clause-number : goal.returns-clause-number
returns-clause-number c = λ n h.
    holds_next c.args.number _ n c.args.digit _ (omega arith) c.requires.digit c.if-number.false
    (ap (λ p. c.args.number.kept * p + c.args.digit) c.power_of_ten-power.ensures.value) c.if-wide-ge-LIMIT.false refl h
