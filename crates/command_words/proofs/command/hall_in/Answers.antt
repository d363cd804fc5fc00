use Rattle.std.proofs.Common.{◌∙◌, arith}
use Rattle.command_words.proofs.Asking.{hall_words}
use Rattle.command_words.proofs.command.hall_in.Goals as goal

pub returns-clause-hall : goal.returns-clause-hall
returns-clause-hall c =
    c.hall_of.ensures.hall
    ∙ hall_words c.args.words.now _ _ _ _ _ _ (omega (arith, c.count.ensures, c.if-count-ne7.false)) c.word.ensures c.word-2.ensures c.word-3.ensures c.word-4.ensures c.word-5.ensures c.word-6.ensures
