use Rattle.std.proofs.Common.{arith, rules}
use Rattle.command_words.proofs.LastEqual.{cut_at_last}
use Rattle.command_words.proofs.names.row_in.Goals as goal

pub returns-in-Some : goal.returns-in-Some
returns-in-Some c =
    let split = cut_at_last 61 c.args.word.now _ c.rsplit_once.ensures.cases (omega arith) in
    rw (← split) (grind rules)

pub returns-in-None : goal.returns-in-None
returns-in-None c =
    let split = cut_at_last 61 c.args.word.now _ c.rsplit_once.ensures.cases (omega arith) in
    rw (← split) (grind rules)
