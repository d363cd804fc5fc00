use Rattle.std.proofs.Common.{arith, sym, ◌∙◌}
use Rattle.json_tokens.specs.Spelled.{digits_in}
use Rattle.json_tokens.proofs.Kept.{starts, numeral_wide, numeral_lowered, numeral_raised}
use Rattle.json_tokens.proofs.numerals.kept.Goals as goal

pub returns-then-number : goal.returns-then-number
returns-then-number c =
    let h = c.with_digits-number.ensures.number _ (c.with_digits.ensures.number 0 starts) in
    sym (numeral_wide (digits_in c.args.spelling.now) (h.many c.if-number.true))

pub shifted-requires-clause-last : goal.shifted-requires-clause-last
shifted-requires-clause-last c = (c.with_digits-number.ensures.number _ (c.with_digits.ensures.number 0 starts)).last c.if-number.false

pub shifted-requires-else-spelling-clause-last : goal.shifted-requires-else-spelling-clause-last
shifted-requires-else-spelling-clause-last c = (c.with_digits-number.ensures.number _ (c.with_digits.ensures.number 0 starts)).last c.if-number.false

pub returns-then-spelling : goal.returns-then-spelling
returns-then-spelling c =
    let h = c.with_digits-number.ensures.number _ (c.with_digits.ensures.number 0 starts) in
    c.shifted.ensures ∙ numeral_lowered (digits_in c.args.spelling.now) c.with_digits-number.result c.size-moved.result c.if-spelling.true h c.if-number.false c.size-moved.ensures.size (omega (arith, c.with_digits-number.ensures.zeros, c.with_digits.ensures.zeros))

pub returns-else-spelling : goal.returns-else-spelling
returns-else-spelling c =
    let h = c.with_digits-number.ensures.number _ (c.with_digits.ensures.number 0 starts) in
    c.shifted-else-spelling.ensures ∙ numeral_raised (digits_in c.args.spelling.now) c.with_digits-number.result c.size-moved.result c.if-spelling.false h c.if-number.false c.size-moved.ensures.size (omega arith)
