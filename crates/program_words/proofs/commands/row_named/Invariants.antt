use Rattle.std.proofs.Common.{◌≡◌, length, map}
use Rattle.program_words.specs.CommandTexts.{row_named}
use Rattle.program_words.proofs.commands.row_named.Given as goal

abbrev pub invariant-loop-table : goal.invariant-loop-table
invariant-loop-table l = row_named (map (λ r. (r.0.now, (r.1.now, r.2.now))) l.table) l.name ≡ row_named (map (λ r. (r.0.now, (r.1.now, r.2.now))) l.initial.table) l.name

abbrev pub decreases-loop-table : goal.decreases-loop-table
decreases-loop-table l = length l.table
