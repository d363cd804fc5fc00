-- The rates that decimal numbers stand for.
use Rattle.std.specs.Prelude.{◌≡◌, ℕ, ◌*◌, ◌^◌, ◌≤◌, List, [], ◌∷◌, pos, ◌*ℤ◌, ◌-ℤ◌, ◌<ℤ◌, unsigned_abs, Bool, ◌&&◌, cond, nat_le, int_lt, Option, Some, None, IsSomeAnd}
use Rattle.std.specs.List.{All, find}
use Rattle.std.specs.Option.{option_or}
use Rattle.ratio_time.specs.declared.numeral.Numeral.{Numeral}
use Rattle.ratio_time.specs.declared.rate.Rate.{Rate}

-- the rates of film and television that rounded numbers stand for, each as num and den
abbrev pub usual_rates : List (ℕ × ℕ)
usual_rates =
    (24000, 1001) ∷ (24, 1) ∷ (25, 1) ∷ (30000, 1001) ∷ (30, 1) ∷ (48000, 1001) ∷ (60000, 1001) ∷ []

-- how far the number m/10^p and num/den are apart, in parts of which den·10^p make one
abbrev pub apart : Numeral → ℕ × ℕ → ℕ
apart number rate = unsigned_abs (number.mantissa *ℤ pos rate.1 -ℤ pos (rate.0 * 10 ^ number.places))

-- the number is at most 1/200 from the rate
abbrev pub StandsFor : Numeral → ℕ × ℕ → Type 0
StandsFor number rate = 200 * apart number rate ≤ rate.1 * 10 ^ number.places

-- the number is further from each of the usual rates
abbrev pub IsUnusual : Numeral → Type 0
IsUnusual number = All (λ usual. StandsFor number usual → ⊥) usual_rates

-- the number can be taken as it is, its mantissa as num and 10^p as den
pub record IsRateItself (number : Numeral) : Type 0 where
  pub positive : pos 0 <ℤ number.mantissa
  pub few_digits : number.mantissa <ℤ pos (10 ^ 12)
  pub few_places : number.places ≤ 6

-- the answer is this rate
abbrev pub GivesRate : Option Rate → ℕ → ℕ → Type 0
GivesRate answer num den = IsSomeAnd answer (λ rate. (rate.num ≡ num) × (rate.den ≡ den))

-- the same as functions, for definitions that compute: the rate that a number stands for, as num and den
abbrev pub stands_for : Numeral → ℕ × ℕ → Bool
stands_for number rate = nat_le (200 * apart number rate) (rate.1 * 10 ^ number.places)

abbrev pub is_itself : Numeral → Bool
is_itself number = int_lt (pos 0) number.mantissa && (int_lt number.mantissa (pos (10 ^ 12)) && nat_le number.places 6)

abbrev pub itself : Numeral → Option (ℕ × ℕ)
itself number = cond (is_itself number) (Some (unsigned_abs number.mantissa, 10 ^ number.places)) None

unfoldable pub rate_value : Numeral → Option (ℕ × ℕ)
rate_value number = option_or (find (stands_for number) usual_rates) (itself number)
