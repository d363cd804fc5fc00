use Rattle.std.proofs.Common.{◌∙◌}
use Rattle.command_words.proofs.Asking.{cut_words}
use Rattle.command_words.proofs.command.cut_in.Goals as goal

pub returns-clause-command : goal.returns-clause-command
returns-clause-command c =
    c.cut_of.ensures.command
    ∙ cut_words c.args.words.now _ _ _ _ _ c.word.ensures c.word-2.ensures c.word-3.ensures c.word-4.ensures c.word-5.ensures
