-- The members of a set of numbers.
use Rattle.std.proofs.Common.{◌≡◌, ◌⊎◌, inl, inr, ℕ, zero, suc, ◌+◌, ◌*◌, ◌/◌, ◌%◌, ◌^◌, ◌<◌, ◌≤◌, ◌≢◌, ◌==◌, Bool, true, false, List, [], ◌∷◌, refl, sym, ap, ◌∙◌, subst, arith, ⊎_elim}
use Rattle.std.proofs.Math.Nat.{div-div-eq-div-mul, pow-succ'}
use Rattle.std.proofs.lemmas.Bool.Decides.{nat_tests}
use Rattle.edit_journal.specs.Seats.{In}
use Rattle.room_core.specs.Parts.{AscendBetween, numbers}
use Rattle.room_core.specs.Whole.{set_of}
use Rattle.history_points.proofs.Sets.{Rest, shifted, rest_of_all, higher, listed_next, passed_next, all_listed}
use Rattle.track_locks.specs.Homes.{members}
use Rattle.track_locks.proofs.Several.{members_then, members_else}

from_all : (count set : ℕ) (names : List ℕ) → AscendBetween 0 count names → Rest 32 0 set [] names → Rest count 0 set [] names
from_all count set names a r = record { rest = names; ascend = a; left_is = r.left_is ∙ ap (λ l. shifted 0 l) r.same; same = refl }

odd_or_not : (a : ℕ) → (a ≡ 1) ⊎ (a ≢ 1)
odd_or_not a = by_test (a == 1) refl
  where
    by_test : (b : Bool) → (a == 1) ≡ b → (a ≡ 1) ⊎ (a ≢ 1)
    by_test true e = inl (Prim.grind (arith, nat_tests, e))
    by_test false e = inr (λ h. Prim.grind (arith, nat_tests, e, h))

twice : (x : ℕ) → x * 2 ≡ 2 * x
twice x = omega arith

-- half of what is left at a number is left at the next
halved : (set n : ℕ) → set / 2 ^ n / 2 ≡ set / 2 ^ (n + 1)
halved set n =
    let e : suc n ≡ n + 1 = omega arith in
    div-div-eq-div-mul set (2 ^ n) 2 ∙ ap (λ (k : ℕ). set / k) (twice (2 ^ n) ∙ (sym (pow-succ' 2 n) ∙ ap (λ (k : ℕ). 2 ^ k) e))

all_left : (set : ℕ) → set ≡ set / 2 ^ 0
all_left set = omega arith

rest_at : (count set : ℕ) (names : List ℕ) (n : ℕ) → Rest count 0 set [] names → Rest count n (set / 2 ^ n) (members n set) names
rest_at count set names zero r = subst (λ k. Rest count 0 k [] names) (all_left set) r
rest_at count set names (suc n) r =
    let before = rest_at count set names n r in
    let e : n + 1 ≡ suc n = omega arith in
    subst (λ k. Rest count k (set / 2 ^ k) (members k set) names) e
    (⊎_elim
    (λ (odd : set / 2 ^ n % 2 ≡ 1). subst (λ (x : ℕ × List ℕ). Rest count (n + 1) x.0 x.1 names) (λ i. (halved set n i, sym (members_then set n odd) i)) (listed_next count n (set / 2 ^ n) (members n set) names before odd))
    (λ (even : set / 2 ^ n % 2 ≢ 1). subst (λ (x : ℕ × List ℕ). Rest count (n + 1) x.0 x.1 names) (λ i. (halved set n i, sym (members_else set n even) i)) (passed_next count n (set / 2 ^ n) (members n set) names before even))
    (odd_or_not (set / 2 ^ n % 2)))

-- numbers in ascending order are the members of their set
pub members_of : (count set : ℕ) (names : List ℕ) → count ≤ 32 → AscendBetween 0 count names → set_of names ≡ set → members count set ≡ names
members_of count set names few a is =
    let r = from_all count set names a (rest_of_all set names (higher 0 count 32 names few a) is) in
    all_listed count count (set / 2 ^ count) (members count set) names (omega arith) (rest_at count set names count r)

here_or_later : (b : Bool) (from count n : ℕ) → (n == from) ≡ b → (n ≢ from → In n (numbers (from + 1) count)) → In n (from ∷ numbers (from + 1) count)
here_or_later true from count n e later = inl (Prim.grind (arith, nat_tests, e))
here_or_later false from count n e later = inr (later (λ h. Prim.grind (arith, nat_tests, e, h)))

-- so many numbers from one on
pub in_numbers : (from count n : ℕ) → from ≤ n → n < from + count → In n (numbers from count)
in_numbers from zero n le lt = absurd (omega (arith, le, lt))
in_numbers from (suc count) n le lt =
    here_or_later (n == from) from count n refl (λ other. in_numbers (from + 1) count n (omega (arith, le, other)) (omega (arith, lt)))
