-- A kept file as the code reads it.
use Rattle.std.specs.Prelude.{◌≡◌, ℕ, Bool, List, ◌++◌, length, ◌==◌}
use Rattle.std.specs.List.{AllByRecursion}
use Rattle.journal_file.specs.declared.faults.OpenFault.{OpenFault}
use Rattle.journal_file.specs.declared.faults.OpenFault.TheVariants.{Failed, TooLarge, Damaged, TooMany, Memory}
use Rattle.journal_file.specs.Layout.{IsLine, records_of, front_of, HasLines, IsDamagedAt}
use Rattle.journal_file.specs.Standing.{HasTooMany}

abbrev pub is_lf : ℕ → Bool
is_lf byte = byte == 10

-- these are its lines, and its gate stands at this place
pub record HasGateAt (bytes : List ℕ) (lines : List (List ℕ)) (at : ℕ) : Type 0 where
  pub has : HasLines bytes lines
  pub place : at ≡ length (front_of lines)

-- so many records are before a gate at this place
pub record HasCountAt (bytes : List ℕ) (count at : ℕ) : Type 0 where
  pub lines : List (List ℕ)
  pub counts : length lines ≡ count
  pub gate : HasGateAt bytes lines at

-- so many whole records begin these bytes, and no more, before what is left
pub record Begins (bytes : List ℕ) (count : ℕ) (rest : List ℕ) : Type 0 where
  pub lines : List (List ℕ)
  pub counts : length lines ≡ count
  pub are_lines : AllByRecursion IsLine lines
  pub parts : bytes ≡ records_of lines ++ rest

-- why a file was not read
abbrev pub IsReadFault : List ℕ → OpenFault → Type 0
IsReadFault bytes Failed = ⊥
IsReadFault bytes TooLarge = ⊥
IsReadFault bytes (Damaged at) = IsDamagedAt bytes at
IsReadFault bytes (TooMany count) = HasTooMany bytes count
IsReadFault bytes Memory = Unit {0}
