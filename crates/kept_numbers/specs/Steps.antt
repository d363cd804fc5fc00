-- The numbers of the stations' last lines while the records are read.
use Rattle.std.specs.Prelude.{◌≡◌, ◌≢◌, ◌<◌, ℕ, List, ◌∷◌, ◌++◌, Option, Some, None, slice_index, slice_set}
use Rattle.std.specs.List.{AllByRecursion}
use Rattle.journal_file.specs.Layout.{IsLine, records_of}
use Rattle.kept_numbers.specs.Numbers.{last_number, last_or, numbers_of}

-- after a line that begins with a station and a number
abbrev pub noted : List ℕ → Option (ℕ × ℕ) → List ℕ
noted numbers None = numbers
noted numbers (Some (station, number)) = slice_set numbers station number

-- what is left of records and a gate, and what their lines come to after those before
pub record GoesOn (lines : List (List ℕ)) (bytes : List ℕ) (numbers : List ℕ) : Type 0 where
  pub left : List (List ℕ)
  pub gate : ℕ
  pub rest : List ℕ
  pub closed : gate ≢ 43
  pub are_lines : AllByRecursion IsLine left
  pub parts : bytes ≡ records_of left ++ gate ∷ rest
  pub last : (station : ℕ) → station < 16 → last_or (slice_index numbers station) (numbers_of station left) ≡ last_number station lines
