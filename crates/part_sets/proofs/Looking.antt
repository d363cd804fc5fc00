-- The numbers of a set, looked at one after another.
use Rattle.std.proofs.Common.{◌≡◌, ◌≢◌, ℕ, zero, suc, ◌+◌, ◌-◌, ◌^◌, ◌<◌, ◌≤◌, Bool, true, false, ◌&&◌, not, List, []}
use Rattle.std.proofs.Common.{◌∷◌, Option, Some, None, drop, slice_get, refl, sym, ap, ◌∙◌, arith, nat_lt}
use Rattle.std.proofs.Common.{if◌then◌else◌}
use Rattle.part_sets.specs.Members.{first_absent, has, members, members_from}

true_false : {A : Type 0} → true ≡ false → A
true_false e = absurd (Prim.grind (arith, e))

-- the numbers of a set from one on
unfoldable pub members_after : ℕ → ℕ → List ℕ
members_after s t = members_from s t (32 - t)

pub at_start : (s : ℕ) → members s ≡ members_after s 0
unfolding members members_after
at_start s = refl

at_number : (s t n m : ℕ) → n ≡ suc m → members_from s t n ≡ (if has s t then t ∷ members_from s
    (suc t) m else members_from s (suc t) m)
at_number s t n m e = ap (members_from s t) e

after_next : (s t : ℕ) → members_from s (suc t) (32 - suc t) ≡ members_after s (t + 1)
unfolding members_after
after_next s t = let e : suc t ≡ t + 1 = omega arith in ap (λ (k : ℕ). members_from s k (32 - k)) e

choose : (b : Bool) (t : ℕ) (xs ys : List ℕ) → xs ≡ ys → (if b then t ∷ xs else xs) ≡ (if b then t ∷ ys else ys)
choose b t xs ys e = ap (λ zs. if b then t ∷ zs else zs) e

-- a number is in the set, or is passed over
pub next_member : (s t : ℕ) → t < 32 → members_after s t ≡ (if has s t then t ∷ members_after s
    (t + 1) else members_after s (t + 1))
unfolding members_after
next_member s t h = at_number s t (32 - t) (32 - suc t) (omega (arith, h))
    ∙ choose (has s t) t (members_from s (suc t) (32 - suc t)) (members_from s (t + 1) (32 - (t + 1))) (after_next s t)

pub no_more : (s t : ℕ) → t ≡ 32 → members_after s t ≡ []
unfolding members_after
no_more s t e = let z : 32 - t ≡ 0 = omega (arith, e) in ap (members_from s t) z

-- the first of these that is not below the count
if_step : (c b : Bool) (count t : ℕ) (rest : List ℕ) → nat_lt t count ≡ b → (c && not b) ≡ false
    → first_absent count (if c then t ∷ rest else rest) ≡ first_absent count rest
if_step false b count t rest e f = refl
if_step true true count t rest e f = ap (λ (b : Bool). if b then first_absent count rest else Some t) e
if_step true false count t rest e f = true_false f

found_step : (c b : Bool) (count t : ℕ) (rest : List ℕ) → nat_lt t count ≡ b → (c && not b) ≡ true
    → first_absent count (if c then t ∷ rest else rest) ≡ Some t
found_step false b count t rest e f = true_false (sym f)
found_step true true count t rest e f = true_false (sym f)
found_step true false count t rest e f = ap (λ (b : Bool). if b then first_absent count rest else Some t) e

pub absent-passed : (count s t : ℕ) → t < 32 → (has s t && not (nat_lt t count)) ≡ false
    → first_absent count (members_after s t) ≡ first_absent count (members_after s (t + 1))
absent-passed count s t h f = ap (first_absent count) (next_member s t h) ∙ if_step (has s t) (nat_lt t count) count t
    (members_after s (t + 1)) refl f

pub absent-found : (count s t : ℕ) → t < 32 → (has s t && not (nat_lt t count)) ≡ true
    → first_absent count (members_after s t) ≡ Some t
absent-found count s t h f = ap (first_absent count) (next_member s t h) ∙ found_step (has s t) (nat_lt t count) count t
    (members_after s (t + 1)) refl f
