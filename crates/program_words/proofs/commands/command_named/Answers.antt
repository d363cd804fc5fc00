use Rattle.std.proofs.Common.{rules, arith}
use Rattle.std.proofs.lemmas.Grind.{common_steps}
use Rattle.program_words.specs.CommandTexts.{command_named}
use Rattle.program_words.proofs.commands.command_named.Goals as goal

pub returns : goal.returns
unfolding command_named
returns c = first_of (search rules, grind (arith, common_steps))
