-- What is known of a reader that fails or succeeds: where it stopped, and that bytes which begin alike are read alike.
use Rattle.std.specs.Prelude.{◌≡◌, ℕ, ◌+◌, ◌<◌, ◌≤◌, ◌⊎◌, List, [], ◌∷◌, ◌++◌, length, take, Ok, Err}
use Rattle.json_tokens.specs.declared.fault.JsonFault.{JsonFault}
use Rattle.json_tokens.specs.declared.fault.JsonFault.TheVariants.{Syntax, Depth, NotUtf8, TooLarge, Memory}
use Rattle.json_tokens.specs.Grammar.{IsText, IsNumber}
use Rattle.json_tokens.specs.Decimal.{Digits}
use Rattle.json_tokens.specs.Faults.{IsLawful, IsLoneHalf, IsBadSequence, IsTooDeep}
use Rattle.json_tokens.specs.Reading.{Read}

-- the fault of a reader that began at the place and stopped so many bytes behind it
abbrev pub IsToldAt : (List ℕ → Type 0) → (List ℕ → Type 0) → ℕ → List ℕ → ℕ → JsonFault → Type 0
IsToldAt Begin Deeper at bytes stop (Syntax p) = (p ≡ at + stop) ⊎ ((start : ℕ) × (p ≡ at + start) × IsLoneHalf Begin bytes start stop)
IsToldAt Begin Deeper at bytes stop (NotUtf8 p) = (start : ℕ) × (p ≡ at + start) × IsBadSequence Begin bytes start stop
IsToldAt Begin Deeper at bytes stop (Depth p) = (p ≡ at + stop) × IsTooDeep Deeper bytes stop
IsToldAt Begin Deeper at bytes stop TooLarge = ⊥
IsToldAt Begin Deeper at bytes stop Memory = ⊥

pub record Stuck {X : Type 0} (read : ℕ → List ℕ → Read X) (Begin Deeper : List ℕ → Type 0) (at : ℕ) (bytes : List ℕ) (e : JsonFault) : Type 0 where
  pub stop : ℕ
  pub within : stop ≤ length bytes
  pub lawful : IsLawful Begin (take stop bytes)
  pub told : IsToldAt Begin Deeper at bytes stop e
  pub alike : stop < length bytes → (more : List ℕ) → read at (take (stop + 1) bytes ++ more) ≡ Err e

-- A reader that left a byte reads the same, whatever stands behind that byte.
pub record Alike {X : Type 0} (read : ℕ → List ℕ → Read X) (at : ℕ) (bytes : List ℕ) (x : X) (after b : ℕ) (rest : List ℕ) : Type 0 where
  pub front : List ℕ
  pub parts : bytes ≡ front ++ b ∷ rest
  pub place : after ≡ at + length front
  pub same : (more : List ℕ) → read at (front ++ b ∷ more) ≡ Ok (x, after, b ∷ more)

-- bytes that begin a text behind its opening quote, with its closing one
abbrev pub BeginsText : List ℕ → Type 0
BeginsText bytes = (rest body text : List ℕ) × IsText body text × (bytes ++ rest ≡ body ++ 34 ∷ [])

abbrev pub BeginsNumber : List ℕ → Type 0
BeginsNumber bytes = (rest : List ℕ) × (d : Digits) × IsNumber (bytes ++ rest) d
