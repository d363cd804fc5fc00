use Rattle.std.proofs.Common.{◌≡◌, ℕ, ◌+◌, List, Option, Some, None, Bor, All, length, option_map}
use Rattle.line_table.specs.CallTexts.{IsSmall}
use Rattle.line_table.specs.Spelling.{listed_in, numbers_of, numerals_of}
use Rattle.line_table.proofs.ListWords.{behind}
use Rattle.line_table.proofs.parts.numbers.Given as goal

-- the numbers so far, and the words to come
abbrev pub invariant-loop-rest : goal.invariant-loop-rest
invariant-loop-rest l =
    (behind l.numbers.items (numerals_of (listed_in (option_map (λ more. more.now) l.rest))) ≡ numbers_of l.list) × All IsSmall l.numbers.items

abbrev bytes_left : Option (Bor (List ℕ)) → ℕ
bytes_left None = 0
bytes_left (Some more) = length more.now + 1

abbrev pub decreases-loop-rest : goal.decreases-loop-rest
decreases-loop-rest l = bytes_left l.rest
