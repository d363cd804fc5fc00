-- Numbers as their digits spell them.
use Rattle.std.specs.Prelude.{ℕ, ◌+◌, ◌-◌, ◌*◌, Bool, List, [], ◌∷◌, if◌then◌else◌}

-- a number as it is spelled: whether a minus stands before it, its digits before and behind the point, and of its
-- exponent whether a minus stands before it, and the digits
pub record Digits : Type 0 where
  pub negative : Bool
  pub whole : List ℕ
  pub fraction : List ℕ
  pub lowers : Bool
  pub exponent : List ℕ

-- the number that digits write, behind those of n
abbrev pub number_from : ℕ → List ℕ → ℕ
number_from n [] = n
number_from n (d ∷ ds) = number_from (n * 10 + (d - 48)) ds

abbrev pub number_of : List ℕ → ℕ
number_of ds = number_from 0 ds

-- by how many places the exponent moves the point to the right, and to the left
abbrev pub raised : Digits → ℕ
raised d = if d.lowers then 0 else number_of d.exponent

abbrev pub lowered : Digits → ℕ
lowered d = if d.lowers then number_of d.exponent else 0
