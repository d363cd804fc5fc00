use Rattle.std.proofs.Common.{◌+◌, ◌-◌, ◌*◌, arith}
use Rattle.timecode12.proofs.spelling.number.Goals as goal

pub returns-clause-none : goal.returns-clause-none
returns-clause-none c =
    let tens = c.if-not-is_ascii_digit.ensures.cases in
    let ones = c.if-not-is_ascii_digit-2.ensures.cases in
    ((λ e. cc), (λ none. absurd (none ((c.args.tens - 48) * 10 + (c.args.ones - 48)) (omega arith) (omega arith) (omega arith))))
