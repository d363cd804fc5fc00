use Rattle.std.proofs.Common.{arith, sym, ap, ◌∙◌}
use Rattle.json_tokens.specs.ReadingNumerals.{numeral_of_fraction}
use Rattle.json_tokens.proofs.Fractions.{fraction_far}
use Rattle.json_tokens.proofs.Kept.{wide_up, wide_product, kept_up, kept_down, none_zero}
use Rattle.json_tokens.proofs.numerals.shifted.Goals as goal

pub returns-then-kept-eq0 : goal.returns-then-kept-eq0
returns-then-kept-eq0 c = c.numeral_with.ensures ∙ ap (numeral_of_fraction c.args.negative) (sym (none_zero c.args.kept c.args.up c.args.down c.if-kept-eq0.true))

pub returns-then-zeros-gt17 : goal.returns-then-zeros-gt17
returns-then-zeros-gt17 c = ap (numeral_of_fraction c.args.negative) (sym (wide_up c.args.kept c.args.up c.args.down (omega arith) c.if-up-down.true (omega arith)))

pub returns-then-wide-ge-LIMIT : goal.returns-then-wide-ge-LIMIT
returns-then-wide-ge-LIMIT c = ap (numeral_of_fraction c.args.negative) (sym (wide_product c.args.kept c.args.up c.args.down c.power_of_ten.result c.if-up-down.true c.power_of_ten.ensures.value c.if-wide-ge-LIMIT.true))

pub returns-then-up-down : goal.returns-then-up-down
returns-then-up-down c = c.numeral_with-then-up-down.ensures ∙ ap (numeral_of_fraction c.args.negative) (sym (kept_up c.args.kept c.args.up c.args.down c.power_of_ten.result c.if-up-down.true c.power_of_ten.ensures.value c.if-wide-ge-LIMIT.false))

pub returns-then-places-gt18 : goal.returns-then-places-gt18
returns-then-places-gt18 c = ap (numeral_of_fraction c.args.negative) (sym (fraction_far c.args.kept c.args.up c.args.down (c.requires.last (omega arith)) (omega arith)))

pub returns : goal.returns
returns c = c.numeral_with-2.ensures ∙ ap (numeral_of_fraction c.args.negative) (sym (kept_down c.args.kept c.args.up c.args.down (c.requires.last (omega arith)) c.requires.size c.if-up-down.false (omega arith)))
