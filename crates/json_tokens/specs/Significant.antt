-- The digits of a number, without the zeros at their end.
use Rattle.std.specs.Prelude.{◌≡◌, ◌≢◌, ℕ, ◌*◌, ◌%◌, ◌^◌, ◌<◌, ◌≤◌, ◌⊎◌, true, false}
use Rattle.json_tokens.specs.declared.numerals.Significant.{Significant}

-- more digits than are kept, not counting zeros at the end
pub record TooMany (n : ℕ) : Type 0 where
  pub digits : ℕ
  pub zeros : ℕ
  pub number : n ≡ digits * 10 ^ zeros
  pub many : 10 ^ 18 ≤ digits
  pub last : digits % 10 ≢ 0

-- s says what the number n is
pub record Holds (s : Significant) (n : ℕ) : Type 0 where
  pub size : s.kept < 10 ^ 18
  pub none : s.kept ≡ 0 → s.zeros ≡ 0
  pub number : s.too_many ≡ false → n ≡ s.kept * 10 ^ s.zeros
  pub last : s.too_many ≡ false → 0 < s.kept → s.kept % 10 ≢ 0
  pub many : s.too_many ≡ true → TooMany n

-- the number, or so large a one that it does not matter which
abbrev pub IsSize : ℕ → ℕ → Type 0
IsSize size n = (size ≡ n) ⊎ ((10 ^ 30 ≤ size) × (10 ^ 30 ≤ n))
