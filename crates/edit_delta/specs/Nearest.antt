-- The delta used by an edit that moves something: of the deltas that are allowed, the one between 0 and the delta asked
-- for that is nearest to the latter. This project's own.
use Rattle.std.specs.Prelude.{◌≡◌, ◌≤◌, ◌<◌, ◌^◌, ◌⊎◌, ℕ, zero, suc, ℤ, pos, negsuc, neg_ℤ, nat_abs, nat_le, Bool, true, if◌then◌else◌}

-- the greatest number up to n that is allowed, and 0 where none is
abbrev pub greatest : (ℕ → Bool) → ℕ → ℕ
greatest allowed zero = 0
greatest allowed (suc n) = if allowed (suc n) then suc n else greatest allowed n

-- the member of a set of deltas that is used; 0 is always allowed
abbrev pub nearest : (ℤ → Bool) → ℤ → ℤ
nearest allowed (pos n) = pos (greatest (λ k. allowed (pos k)) n)
nearest allowed (negsuc n) = neg_ℤ (pos (greatest (λ k. allowed (neg_ℤ (pos k))) (suc n)))

-- a delta lies between 0 and the one asked for
abbrev pub LiesBetween : ℤ → ℤ → Type 0
LiesBetween (pos d) (pos n) = d ≤ n
LiesBetween (negsuc d) (pos n) = ⊥
LiesBetween (pos d) (negsuc n) = d ≡ 0
LiesBetween (negsuc d) (negsuc n) = d ≤ n

-- d is the one of these deltas, and 0, that lies between 0 and by and is nearest to by
pub record IsNearest (allowed : ℤ → Bool) (by d : ℤ) : Type 0 where
  pub member : (d ≡ pos 0) ⊎ (allowed d ≡ true)
  pub between : LiesBetween d by
  pub nearest : (e : ℤ) → LiesBetween e by → allowed e ≡ true → nat_abs e ≤ nat_abs d

-- what is said of so many frames later, and of so many frames earlier
abbrev pub by_sign : {A : Type 0} → (ℕ → A) → (ℕ → A) → ℤ → A
by_sign later earlier (pos n) = later n
by_sign later earlier (negsuc n) = earlier (suc n)

-- the deltas of at most so many frames earlier, and so many frames later
abbrev pub lies_within : ℕ → ℕ → ℤ → Bool
lies_within earlier later = by_sign (λ n. nat_le n later) (λ n. nat_le n earlier)

-- each set of deltas has its nearest member
abbrev pub NearestIs : Type 0
NearestIs = (allowed : ℤ → Bool) (by : ℤ) → IsNearest allowed by (nearest allowed by)

-- and has no other
abbrev pub NearestIsOne : Type 0
NearestIsOne = (allowed : ℤ → Bool) (by d e : ℤ) → IsNearest allowed by d → IsNearest allowed by e → d ≡ e

-- as many frames as the program can ask for are allowed up to a bound
abbrev pub AreUpTo : (ℕ → Bool) → ℕ → Type 0
AreUpTo allowed bound = (n : ℕ) → n < 2 ^ 32 → allowed n ≡ nat_le n bound
