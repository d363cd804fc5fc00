use Rattle.std.proofs.Common.{◌≡◌, length, map}
use Rattle.code_texts.specs.CodeTexts.{text_in}
use Rattle.code_texts.proofs.codes.text_in.Given as goal

abbrev pub invariant-loop-table : goal.invariant-loop-table
invariant-loop-table l = text_in (map (λ row. (row.0.now, row.1.now)) l.table) l.code ≡ text_in (map (λ row. (row.0.now, row.1.now)) l.initial.table) l.code

abbrev pub decreases-loop-table : goal.decreases-loop-table
decreases-loop-table l = length l.table
