use Rattle.std.proofs.Common.{◌∙◌}
use Rattle.command_words.proofs.Rates.{number_told, no_number}
use Rattle.command_words.proofs.command.rate.Goals as goal

pub returns-in-Some : goal.returns-in-Some
returns-in-Some c = c.sequence_rate.ensures ∙ number_told c.args.word.now c.in-Some.number (rw c.as_bytes.ensures.value at c.in-Some.ensures.value)

pub returns-in-None : goal.returns-in-None
returns-in-None c = no_number c.args.word.now (rw c.as_bytes.ensures.value at c.in-None.ensures.value)
