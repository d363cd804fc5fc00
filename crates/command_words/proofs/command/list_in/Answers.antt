use Rattle.std.proofs.Common.{arith}
use Rattle.command_words.proofs.Asking.{other_words}
use Rattle.command_words.proofs.command.list_in.Goals as goal

pub returns-in_default-word-clause-command : goal.returns-in_default-word-clause-command
returns-in_default-word-clause-command c =
    other_words c.args.words.now c.word.result.now (omega (arith, c.count.ensures, c.in-7.is)) c.word.ensures c.in_default-word.not-numbered
