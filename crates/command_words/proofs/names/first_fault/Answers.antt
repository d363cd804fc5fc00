use Rattle.std.proofs.Common.{◌∙◌}
use Rattle.command_words.proofs.NameRows.{fault_told}
use Rattle.command_words.proofs.names.first_fault.Goals as goal

pub returns-in-Some : goal.returns-in-Some
returns-in-Some c =
    fault_told c.args.words.now c.loop-i.i c.word.result.now c.in-Some.fault c.loop-i.invariant.within.0 c.word.ensures c.in-Some.ensures ∙ c.loop-i.invariant.same
