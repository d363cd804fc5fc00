-- Texts and numbers at the front of bytes, read and spelled.
use Rattle.std.specs.Prelude.{◌≡◌, ◌≢◌, ℕ, ℤ, ◌+◌, List, [], ◌∷◌, ◌++◌, Option, Some, None, Ok, length}
use Rattle.json_tokens.specs.Decimal.{Digits}
use Rattle.json_tokens.specs.Grammar.{IsDigit, IsText, IsNumber, IsKept}
use Rattle.json_tokens.specs.ReadingTexts.{text_at}
use Rattle.json_tokens.specs.ReadingNumerals.{numeral_at}

-- a text that is read behind its quote is spelled by the bytes up to a quote
abbrev pub TextsAreSpelled : Type 0
TextsAreSpelled = (at after : ℕ) (bytes text rest : List ℕ) → text_at (length bytes) at bytes ≡ Ok (text, after, rest)
    → (body : List ℕ) × IsText body text × (bytes ≡ body ++ 34 ∷ rest) × (after ≡ at + length body + 1)

-- what bytes before a quote spell is read
abbrev pub TextsAreRead : Type 0
TextsAreRead = (at : ℕ) (body text rest : List ℕ) → IsText body text
    → text_at (length (body ++ 34 ∷ rest)) at (body ++ 34 ∷ rest) ≡ Ok (text, at + length body + 1, rest)

-- the number of these digits, m/10^p, where it is kept, or none where it is not
abbrev pub IsValueOf : Digits → Option (ℤ × ℕ) → Type 0
IsValueOf d (Some n) = IsKept d n.0 n.1
IsValueOf d None = (m : ℤ) (p : ℕ) → IsKept d m p → ⊥

-- no number goes on with these bytes: they begin with no digit, no point and no mark of an exponent
abbrev pub EndsNumber : List ℕ → Type 0
EndsNumber [] = Unit {0}
EndsNumber (b ∷ bs) = (IsDigit b → ⊥) × (b ≢ 46) × (b ≢ 101) × (b ≢ 69)

-- a number that is read is spelled by the bytes in front
abbrev pub NumbersAreSpelled : Type 0
NumbersAreSpelled = (at after : ℕ) (bytes rest : List ℕ) (value : Option (ℤ × ℕ)) → numeral_at at bytes ≡ Ok (value, after, rest)
    → (front : List ℕ) × (d : Digits) × IsNumber front d × IsValueOf d value × (bytes ≡ front ++ rest) × (after ≡ at + length front)

-- what bytes spell with which no number goes on behind them is read
abbrev pub NumbersAreRead : Type 0
NumbersAreRead = (at : ℕ) (front rest : List ℕ) (d : Digits) (value : Option (ℤ × ℕ)) → IsNumber front d → IsValueOf d value → EndsNumber rest
    → numeral_at at (front ++ rest) ≡ Ok (value, at + length front, rest)
