use Rattle.command_words.proofs.Asking.{none_of_these}
use Rattle.command_words.proofs.command.command_in.Goals as goal

pub returns-in_default-clause-command : goal.returns-in_default-clause-command
returns-in_default-clause-command c =
    none_of_these c.args.words.now c.word.result.now c.word.ensures c.in_default.not-run c.in_default.not-serve c.in_default.not-store c.in_default.not-list c.in_default.not-tape c.in_default.not-import c.in_default.not-follow c.in_default.not-audit c.in_default.not-make
