-- What a station holds no other changes.
use Rattle.std.proofs.Common.{◌≡◌, ◌≢◌, ℕ, List, [], ◌∷◌, Bool, true, false, ◌||◌, ◌==◌, Option, Some, None, Result, Ok, Err, slice_get, refl, sym, ap, ◌∙◌, arith, if◌then◌else◌}
use Rattle.std.specs.List.{list_any}
use Rattle.std.proofs.lemmas.Bool.Decides.{nat_tests}
use Rattle.room_core.specs.Machine.{Event, Take, Commit, Give, Machine, IsOfAnother, StaysHeld, committed, held_as, holds_all, is_free, is_held_by, step}
use Rattle.room_core.specs.Whole.{Meaning, picked, whole}
use Rattle.room_core.specs.declared.entry.Entry.{Entry}
use Rattle.room_core.proofs.Histories.{both_true}
use Rattle.room_core.proofs.WholeParts.{get-put_back, get-set_other, whole_done}

-- a part is held by one station or by none
pub one_holder : (h : Option (Option ℕ)) (s t : ℕ) → is_held_by s h ≡ true → is_held_by t h ≡ true → s ≡ t
one_holder (Some (Some x)) s t a b = Prim.grind (arith, nat_tests, a, b)
one_holder (Some None) s t a b = absurd (Prim.grind (arith, a))
one_holder None s t a b = absurd (Prim.grind (arith, a))

not_free : (h : Option (Option ℕ)) (s : ℕ) → is_held_by s h ≡ true → is_free h ≡ true → ⊥
not_free (Some (Some x)) s a b = Prim.grind (arith, b)
not_free (Some None) s a b = Prim.grind (arith, a)
not_free None s a b = Prim.grind (arith, a)

or_false : (a b : Bool) → (a ≡ true → ⊥) → b ≡ false → (a || b) ≡ false
or_false true b h e = absurd (h refl)
or_false false b h e = e

same_number : (n k : ℕ) → (n == k) ≡ true → n ≡ k
same_number n k h = Prim.grind (arith, nat_tests, h)

-- who holds all parts of some names holds none that another holds
not_named : (holders : List (Option ℕ)) (station s part : ℕ) (names : List ℕ) → is_held_by station (slice_get holders part) ≡ true → s ≢ station
    → holds_all holders s names ≡ true → list_any (λ n. n == part) names ≡ false
not_named holders station s part [] held other all = refl
not_named holders station s part (n ∷ ns) held other all =
    let both = both_true (is_held_by s (slice_get holders n)) (holds_all holders s ns) all in
    or_false (n == part) (list_any (λ n. n == part) ns)
    (λ e. other (one_holder (slice_get holders part) s station (ap (λ k. is_held_by s (slice_get holders k)) (sym (same_number n part e)) ∙ both.0) held))
    (not_named holders station s part ns held other both.1)

stays : {P C : Type 0} (m : Machine P C) (part : ℕ) → StaysHeld m m part
stays m part = record { value = refl; holder = refl }

stays-if : {P C : Type 0} (b : Bool) (m x : Machine P C) (part : ℕ) → (b ≡ true → StaysHeld m x part) → StaysHeld m (if b then x else m) part
stays-if true m x part h = h refl
stays-if false m x part h = stays m part

-- another part is taken or given back
stays-held : {P C : Type 0} (m : Machine P C) (other part : ℕ) (holder : Option ℕ) → other ≢ part → StaysHeld m (held_as m other holder) part
stays-held m other part holder h = record { value = refl; holder = get-set_other m.holders other part holder h }

-- a call that does not name the part is committed
stays-committed : {P C D R : Type 0} (meaning : Meaning P C D R) (m : Machine P C) (e : Entry C) (part : ℕ) (r : Result (List P × D) R)
    → list_any (λ n. n == part) (meaning.names e.call) ≡ false → whole meaning m.parts e.call ≡ r → StaysHeld m (committed m e r) part
stays-committed meaning m e part (Ok (ps, d)) unnamed is =
    let done = whole_done m.parts (meaning.names e.call) (meaning.refuses e.call) (meaning.applied (picked m.parts (meaning.names e.call)) e.call) ps d is in
    record { value = ap (λ xs. slice_get xs part) (sym done.3) ∙ get-put_back m.parts (meaning.names e.call) done.1 part unnamed; holder = refl }
stays-committed meaning m e part (Err r) unnamed is = stays m part

pub stays-step : {P C D R : Type 0} (meaning : Meaning P C D R) (m : Machine P C) (event : Event C) (station part : ℕ)
    → is_held_by station (slice_get m.holders part) ≡ true → IsOfAnother station event → StaysHeld m (step meaning m event) part
stays-step meaning m (Take s taken) station part held other =
    stays-if _ m (held_as m taken (Some s)) part
    (λ may. stays-held m taken part (Some s) (λ same. not_free (slice_get m.holders part) station held (ap (λ k. is_free (slice_get m.holders k)) (sym same) ∙ may)))
stays-step meaning m (Commit s i c) station part held other =
    let e : Entry _ = record { station = s; number = i; call = c } in
    stays-if _ m (committed m e (whole meaning m.parts c)) part
    (λ may. stays-committed meaning m e part (whole meaning m.parts c)
    (not_named m.holders station s part (meaning.names c) held other (Prim.grind (arith, may))) refl)
stays-step meaning m (Give s given) station part held other =
    stays-if _ m (held_as m given None) part
    (λ may. stays-held m given part None (λ same. other (one_holder (slice_get m.holders part) s station (ap (λ k. is_held_by s (slice_get m.holders k)) (sym same) ∙ may) held)))
