-- A spelled number, apart from where its digits lie in memory.
use Rattle.std.specs.Prelude.{◌≡◌, ℕ, ℤ, List, Option, Some, None, Result, Ok, Err}
use Rattle.ratio_time.specs.declared.numeral.Numeral.{Numeral}
use Rattle.json_tokens.specs.declared.numerals.Spelling.{Spelling}
use Rattle.json_tokens.specs.declared.numerals.NoDigit.{NoDigit}
use Rattle.json_tokens.specs.Decimal.{Digits}
use Rattle.json_tokens.specs.ReadingNumerals.{AreDigits}

abbrev pub digits_in : Spelling → Digits
digits_in s = record { negative = s.negative; whole = s.whole.now; fraction = s.fraction.now; lowers = s.exponent.lowers; exponent = s.exponent.digits.now }

-- the numeral that is kept, as m and p for m/10^p
abbrev pub numeral_kept : Option Numeral → Option (ℤ × ℕ)
numeral_kept None = None
numeral_kept (Some n) = Some (n.mantissa, n.places)

-- what a function returned, seen by view, is what reading gives
abbrev pub Takes : {X Y : Type 0} → (X → Y) → Result X NoDigit → Result Y (List ℕ) → Type 0
Takes view (Ok x) read = read ≡ Ok (view x)
Takes view (Err e) read = read ≡ Err e.rest.now

pub record HasDigits (s : Spelling) : Type 0 where
  pub whole : AreDigits s.whole.now
  pub fraction : AreDigits s.fraction.now
  pub exponent : AreDigits s.exponent.digits.now
