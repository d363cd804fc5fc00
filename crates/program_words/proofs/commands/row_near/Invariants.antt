use Rattle.std.proofs.Common.{◌≡◌, length, map}
use Rattle.program_words.specs.CommandTexts.{row_near}
use Rattle.program_words.proofs.commands.row_near.Given as goal

abbrev pub invariant-loop-table : goal.invariant-loop-table
invariant-loop-table l = row_near (map (λ r. (r.0.now, (r.1.now, r.2.now))) l.table) l.word ≡ row_near (map (λ r. (r.0.now, (r.1.now, r.2.now))) l.initial.table) l.word

abbrev pub decreases-loop-table : goal.decreases-loop-table
decreases-loop-table l = length l.table
