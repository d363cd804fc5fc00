-- Exact decimal numbers: m/10^p, with a signed whole number m and a count p of decimal places.
use Rattle.std.specs.Prelude.{◌≡◌, ◌≢◌, ℕ, ◌%◌, ◌^◌, ◌<◌, ℤ, pos, neg_ℤ, ◌*ℤ◌, unsigned_abs, Bool, true, false}

-- n, or -n
abbrev pub with_sign : Bool → ℕ → ℤ
with_sign false n = pos n
with_sign true n = neg_ℤ (pos n)

-- m/10^p and n/10^q are one number, by cross-multiplied whole numbers
abbrev pub SameNumber : ℤ → ℕ → ℤ → ℕ → Type 0
SameNumber m p n q = m *ℤ pos (10 ^ q) ≡ n *ℤ pos (10 ^ p)

-- no fewer places would do: there are none, or the last one is not 0
abbrev pub HasLeastPlaces : ℤ → ℕ → Type 0
HasLeastPlaces m p = 0 < p → unsigned_abs m % 10 ≢ 0
