-- The tracks of a set, and the test of its bits.
use Rattle.std.proofs.Common.{◌≡◌, ◌≢◌, ℕ, zero, suc, ◌+◌, ◌-◌, ◌<◌, ◌≤◌, Bool, true, false, eqb, ◌||◌, ◌&&◌, not, List, ◌∷◌, Some, None, refl, sym, ap, ◌∙◌, arith, nat_eq, nat_lt, if◌then◌else◌}
use Rattle.std.proofs.lemmas.Bool.{eq-eqb, eqb-true}
use Rattle.std.specs.List.{list_any}
use Rattle.composables.specs.TrackSets.{has_track, tracks_from, tracks_in}
use Rattle.edit_apply.specs.Apply.{first_absent}

any_step : (c : Bool) (test : ℕ → Bool) (a : ℕ) (rest : List ℕ) → list_any test (if c then a ∷ rest else rest) ≡ (c && test a || list_any test rest)
any_step true test a rest = refl
any_step false test a rest = refl

and_false : (c r : Bool) → (c && false || r) ≡ r
and_false true r = refl
and_false false r = refl

and_true : (c : Bool) → (c && true || false) ≡ c
and_true true = refl
and_true false = refl

true_false : true ≡ false → ⊥
true_false e = Prim.grind arith

differ : (t a : ℕ) → (t ≡ a → ⊥) → nat_eq t a ≡ false
differ t a n = by (eqb t a) refl where
  by : (b : Bool) → eqb t a ≡ b → eqb t a ≡ false
  by true e = absurd (n (eqb-true t a e))
  by false e = e

-- a track behind those of the list
pub none_before : (s t a n : ℕ) → t < a → list_any (nat_eq t) (tracks_from s a n) ≡ false
none_before s t a zero h = refl
none_before s t a (suc n) h =
    any_step (has_track s a) (nat_eq t) a (tracks_from s (suc a) n)
    ∙ ap (λ (b : Bool). has_track s a && b || list_any (nat_eq t) (tracks_from s (suc a) n)) (differ t a (λ e. omega (arith, e, h)))
    ∙ and_false (has_track s a) _
    ∙ none_before s t (suc a) n (omega (arith, h))

none_past : (s t a n : ℕ) → a + n ≤ t → list_any (nat_eq t) (tracks_from s a n) ≡ false
none_past s t a zero h = refl
none_past s t a (suc n) h =
    any_step (has_track s a) (nat_eq t) a (tracks_from s (suc a) n)
    ∙ ap (λ (b : Bool). has_track s a && b || list_any (nat_eq t) (tracks_from s (suc a) n)) (differ t a (λ e. omega (arith, e, h)))
    ∙ and_false (has_track s a) _
    ∙ none_past s t (suc a) n (omega (arith, h))

among : (s t a n : ℕ) → a ≤ t → t < a + n → list_any (nat_eq t) (tracks_from s a n) ≡ has_track s t
among s t a zero h k = absurd (omega (arith, h, k))
among s t a (suc n) h k = any_step (has_track s a) (nat_eq t) a (tracks_from s (suc a) n) ∙ by (eqb t a) refl (λ h. among s t (suc a) n h (omega (arith, k))) where
  by : (b : Bool) → eqb t a ≡ b → (suc a ≤ t → list_any (nat_eq t) (tracks_from s (suc a) n) ≡ has_track s t) → (has_track s a && eqb t a || list_any (nat_eq t) (tracks_from s (suc a) n)) ≡ has_track s t
  by true e later =
      ap (λ (b : Bool). has_track s a && b || list_any (nat_eq t) (tracks_from s (suc a) n)) e
      ∙ ap (λ (r : Bool). has_track s a && true || r) (none_before s t (suc a) n (let q : t ≡ a = eqb-true t a e in omega (arith, q)))
      ∙ and_true (has_track s a)
      ∙ ap (has_track s) (sym (eqb-true t a e))
  by false e later =
      ap (λ (b : Bool). has_track s a && b || list_any (nat_eq t) (tracks_from s (suc a) n)) e
      ∙ and_false (has_track s a) _
      ∙ later (let q : t ≢ a = (λ x. true_false (sym (eq-eqb t a x) ∙ e)) in omega (arith, q, h))

pub of_set : (s t : ℕ) → t < 32 → has_track s t ≡ list_any (nat_eq t) (tracks_in s)
unfolding tracks_in
of_set s t h = sym (among s t 0 32 (omega arith) h)

pub of_none : (s t : ℕ) → 32 ≤ t → list_any (nat_eq t) (tracks_in s) ≡ false
unfolding tracks_in
of_none s t h = none_past s t 0 32 h

-- the first of these that is not below the count, once the track t was looked at
if_step : (c b : Bool) (count t : ℕ) (rest : List ℕ) → nat_lt t count ≡ b → (c && not b) ≡ false → first_absent count (if c then t ∷ rest else rest) ≡ first_absent count rest
if_step false b count t rest e f = refl
if_step true true count t rest e f = ap (λ (b : Bool). if b then first_absent count rest else Some t) e
if_step true false count t rest e f = absurd (true_false f)

found_step : (c b : Bool) (count t : ℕ) (rest : List ℕ) → nat_lt t count ≡ b → (c && not b) ≡ true → first_absent count (if c then t ∷ rest else rest) ≡ Some t
found_step false b count t rest e f = absurd (true_false (sym f))
found_step true true count t rest e f = absurd (true_false (sym f))
found_step true false count t rest e f = ap (λ (b : Bool). if b then first_absent count rest else Some t) e

passed_one : (count s t n m : ℕ) → n ≡ suc m → (has_track s t && not (nat_lt t count)) ≡ false → first_absent count (tracks_from s t n) ≡ first_absent count (tracks_from s (suc t) m)
passed_one count s t n m e f = ap (λ (k : ℕ). first_absent count (tracks_from s t k)) e ∙ if_step (has_track s t) (nat_lt t count) count t (tracks_from s (suc t) m) refl f

found_one : (count s t n m : ℕ) → n ≡ suc m → (has_track s t && not (nat_lt t count)) ≡ true → first_absent count (tracks_from s t n) ≡ Some t
found_one count s t n m e f = ap (λ (k : ℕ). first_absent count (tracks_from s t k)) e ∙ found_step (has_track s t) (nat_lt t count) count t (tracks_from s (suc t) m) refl f

-- the tracks of a set from t on
unfoldable pub tracks_after : ℕ → ℕ → List ℕ
tracks_after s t = tracks_from s t (32 - t)

pub at_start : (s : ℕ) → tracks_in s ≡ tracks_after s 0
unfolding tracks_in tracks_after
at_start s = refl

pub passed : (count s t : ℕ) → t < 32 → (has_track s t && not (nat_lt t count)) ≡ false → first_absent count (tracks_after s t) ≡ first_absent count (tracks_after s (t + 1))
unfolding tracks_after
passed count s t h f = passed_one count s t (32 - t) (32 - suc t) (omega (arith, h)) f ∙ ap (λ (k : ℕ). first_absent count (tracks_from s k (32 - k))) (let e : suc t ≡ t + 1 = omega arith in e)

pub found : (count s t : ℕ) → t < 32 → (has_track s t && not (nat_lt t count)) ≡ true → first_absent count (tracks_after s t) ≡ Some t
unfolding tracks_after
found count s t h f = found_one count s t (32 - t) (32 - suc t) (omega (arith, h)) f

pub at_end : (count s t : ℕ) → t ≡ 32 → first_absent count (tracks_after s t) ≡ None
unfolding tracks_after
at_end count s t e = ap (λ (k : ℕ). first_absent count (tracks_from s t k)) (let z : 32 - t ≡ 0 = omega (arith, e) in z)
