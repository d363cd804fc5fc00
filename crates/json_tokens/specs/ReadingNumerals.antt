-- Reading a number, and the fraction that it is. What is read stands for (x, bytes), the value and the rest, and
-- a fault for the rest where a digit is missing.
use Rattle.std.specs.Prelude.{ℕ, zero, suc, ◌+◌, ◌-◌, ◌*◌, ◌/◌, ◌%◌, ◌^◌, ◌≤◌, ℤ, All, Bool, true, false, List, [], ◌∷◌, length, Option, Some, None, Result, Ok, Err, nat_lt, nat_le, ◌==◌, ◌||◌, ◌&&◌, if◌then◌else◌}
use Rattle.ratio_time.specs.Numerals.{with_sign}
use Rattle.json_tokens.specs.declared.fault.JsonFault.TheVariants.{Syntax}
use Rattle.json_tokens.specs.Decimal.{Digits, number_from, number_of, raised, lowered}
use Rattle.json_tokens.specs.Reading.{◌>>=◌, Read}

abbrev pub Take : Type 0 → Type 0
Take A = Result (A × List ℕ) (List ℕ)

abbrev pub is_digit : ℕ → Bool
is_digit b = nat_le 48 b && nat_le b 57

abbrev pub AreDigits : List ℕ → Type 0
AreDigits ds = All (λ d. (48 ≤ d) × (d ≤ 57)) ds

-- the digits at the front, and what is behind them
abbrev pub digits_of : List ℕ → List ℕ
digits_of [] = []
digits_of (b ∷ bs) = if is_digit b then b ∷ digits_of bs else []

abbrev pub past_digits : List ℕ → List ℕ
past_digits [] = []
past_digits (b ∷ bs) = if is_digit b then past_digits bs else b ∷ bs

unfoldable pub digits_at : List ℕ → Take (List ℕ)
digits_at bytes = if length (digits_of bytes) == 0 then Err bytes else Ok (digits_of bytes, past_digits bytes)

abbrev pub minus_at : List ℕ → Bool × List ℕ
minus_at [] = (false, [])
minus_at (b ∷ bs) = if b == 45 then (true, bs) else (false, b ∷ bs)

unfoldable pub whole_at : List ℕ → Take (List ℕ)
whole_at [] = Err []
whole_at (b ∷ bs) = if b == 48 then Ok (48 ∷ [], bs) else digits_at (b ∷ bs)

unfoldable pub fraction_at : List ℕ → Take (List ℕ)
fraction_at [] = Ok ([], [])
fraction_at (b ∷ bs) = if b == 46 then digits_at bs else Ok ([], b ∷ bs)

abbrev pub exponent_sign_at : List ℕ → Bool × List ℕ
exponent_sign_at [] = (false, [])
exponent_sign_at (b ∷ bs) = if b == 43 then (false, bs) else minus_at (b ∷ bs)

unfoldable pub power_at : List ℕ → Take (Bool × List ℕ)
power_at bytes = do
  let sign = exponent_sign_at bytes
  digits ← digits_at sign.1
  Ok ((sign.0, digits.0), digits.1)

unfoldable pub exponent_at : List ℕ → Take (Bool × List ℕ)
exponent_at [] = Ok ((false, []), [])
exponent_at (b ∷ bs) = if (b == 101) || (b == 69) then power_at bs else Ok ((false, []), b ∷ bs)

unfoldable pub spelling_at : List ℕ → Take Digits
spelling_at bytes = do
  let sign = minus_at bytes
  whole ← whole_at sign.1
  fraction ← fraction_at whole.1
  exponent ← exponent_at fraction.1
  Ok (record { negative = sign.0; whole = whole.0; fraction = fraction.0; lowers = exponent.0.0; exponent = exponent.0.1 }, exponent.1)

-- n * 10^up / 10^down with so many places: whole, or not
abbrev pub is_whole : ℕ → ℕ → ℕ → ℕ → Bool
is_whole n up down places = (n * 10 ^ (up + places)) % 10 ^ down == 0

-- the least number of places, from p on and before p + more, with which it is whole
unfoldable pub least_places : ℕ → ℕ → ℕ → ℕ → ℕ → Option ℕ
least_places n up down zero p = None
least_places n up down (suc more) p = if is_whole n up down p then Some p else least_places n up down more (p + 1)

abbrev pub sized : ℕ → ℕ → ℕ → Option ℕ → Option (ℕ × ℕ)
sized n up down None = None
sized n up down (Some p) = if nat_lt (n * 10 ^ (up + p) / 10 ^ down) (10 ^ 18) then Some (n * 10 ^ (up + p) / 10 ^ down, p) else None

-- n * 10^up / 10^down as size/10^places with the least places, if these are at most 18 and the size is below 10^18
unfoldable pub fraction : ℕ → ℕ → ℕ → Option (ℕ × ℕ)
fraction n up down = sized n up down (least_places n up down 19 0)

-- that with its sign, as m and p for m/10^p; None is a number too wide to be kept
abbrev pub numeral_of_fraction : Bool → Option (ℕ × ℕ) → Option (ℤ × ℕ)
numeral_of_fraction negative None = None
numeral_of_fraction negative (Some fraction) = Some (with_sign negative fraction.0, fraction.1)

abbrev pub fraction_of : Digits → Option (ℕ × ℕ)
fraction_of d = fraction (number_from (number_of d.whole) d.fraction) (raised d) (length d.fraction + lowered d)

abbrev pub numeral_of_digits : Digits → Option (ℤ × ℕ)
numeral_of_digits d = numeral_of_fraction d.negative (fraction_of d)

abbrev pub numeral_from : ℕ → List ℕ → Take Digits → Read (Option (ℤ × ℕ))
numeral_from at bytes (Ok x) = Ok (numeral_of_digits x.0, at + (length bytes - length x.1), x.1)
numeral_from at bytes (Err rest) = Err (Syntax (at + (length bytes - length rest)))

unfoldable pub numeral_at : ℕ → List ℕ → Read (Option (ℤ × ℕ))
numeral_at at bytes = numeral_from at bytes (spelling_at bytes)

-- of a whole text that is one number
abbrev pub only : Take Digits → Option (ℤ × ℕ)
only (Ok x) = if length x.1 == 0 then numeral_of_digits x.0 else None
only (Err rest) = None

-- the number that a whole text spells, if it can be kept
abbrev pub numeral_in : List ℕ → Option (ℤ × ℕ)
numeral_in text = only (spelling_at text)
