use Rattle.std.proofs.Common.{rules, arith}
use Rattle.std.proofs.lemmas.Grind.{common_steps}
use Rattle.program_words.specs.CommandTexts.{command_near}
use Rattle.program_words.proofs.commands.command_near.Goals as goal

pub returns : goal.returns
unfolding command_near
returns c = first_of (search rules, grind (arith, common_steps))
