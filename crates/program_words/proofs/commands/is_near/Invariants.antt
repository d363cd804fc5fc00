use Rattle.std.proofs.Common.{◌≡◌, length}
use Rattle.program_words.specs.CommandTexts.{is_near}
use Rattle.program_words.proofs.commands.is_near.Given as goal

abbrev pub invariant-loop-name : goal.invariant-loop-name
invariant-loop-name l = is_near l.name l.word ≡ is_near l.initial.name l.initial.word

abbrev pub decreases-loop-name : goal.decreases-loop-name
decreases-loop-name l = length l.name
