-- The parts that an object can stand over, and the parts that a call can name.
use Rattle.std.specs.Prelude.{◌<◌, ◌≤◌, ◌+◌, ℕ, zero, suc, List, [], ◌∷◌, length}

-- each part is good at its number
abbrev pub AreGood : {P : Type 0} → (ℕ → P → Type 0) → List ℕ → List P → Type 0
AreGood good [] [] = Unit {0}
AreGood good [] (p ∷ ps) = ⊥
AreGood good (n ∷ ns) [] = ⊥
AreGood good (n ∷ ns) (p ∷ ps) = good n p × AreGood good ns ps

-- so many numbers, from this one on
abbrev pub numbers : ℕ → ℕ → List ℕ
numbers from zero = []
numbers from (suc count) = from ∷ numbers (from + 1) count

-- in ascending order, above a number that is lower by one, and below the count of parts
abbrev pub AscendBetween : ℕ → ℕ → List ℕ → Type 0
AscendBetween least count [] = Unit {0}
AscendBetween least count (n ∷ ns) = (least ≤ n) × (n < count) × AscendBetween (n + 1) count ns

-- parts that a call may name: at least one, in ascending order, each of them there
pub record IsNaming (count : ℕ) (names : List ℕ) : Type 0 where
  pub some : 0 < length names
  pub ascend : AscendBetween 0 count names
