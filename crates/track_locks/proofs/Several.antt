-- What is held, one more or one less.
use Rattle.std.proofs.Common.{◌≡◌, ◌⊎◌, ℕ, zero, suc, ◌+◌, ◌/◌, ◌%◌, ◌^◌, ◌==◌, eq-eqb, ◌<◌, ◌≤◌, List, [], ◌∷◌, ◌++◌, length, Bool, true, false, cond, Option, Some, All, slice_get, refl, sym, ap, ◌∙◌, subst, arith, ⊎_elim, inl, inr}
use Rattle.std.specs.List.{filter}
use Rattle.std.proofs.lemmas.List.{length-append}
use Rattle.std.proofs.lemmas.List.Elements.{All-cons, All-nil, All-weaker, filter-append}
use Rattle.room_core.specs.Parts.{AscendBetween, numbers}
use Rattle.room_core.specs.Whole.{Meaning}
use Rattle.edit_journal.specs.declared.name.Name.{Name}
use Rattle.edit_journal.specs.declared.name.Name.TheVariants.{Part}
use Rattle.edit_journal.specs.Seats.{Opening, In, without}
use Rattle.edit_journal.specs.Turns.{Known, Open, gathered}
use Rattle.edit_journal.proofs.Fresh.{without_other, above_part}
use Rattle.std.proofs.lemmas.Bool.Decides.{nat_tests}
use Rattle.track_locks.specs.Homes.{IsHome, IsHeld, AreHomes, all_gathered, CanGive, has_bit, members}

pub get_front : {A : Type 0} (xs : List A) (x y : A) (k : ℕ) → slice_get xs k ≡ Some y → slice_get (xs ++ x ∷ []) k ≡ Some y
get_front [] x y k h = absurd (Prim.grind (arith, h))
get_front (z ∷ xs) x y zero h = h
get_front (z ∷ xs) x y (suc k) h = get_front xs x y k h

pub get_end : {A : Type 0} (xs : List A) (x : A) (k : ℕ) → k ≡ length xs → slice_get (xs ++ x ∷ []) k ≡ Some x
get_end {A} xs x k e = subst (λ (j : ℕ). slice_get (xs ++ x ∷ []) j ≡ Some x) (sym e) (at xs)
  where
    at : (xs : List A) → slice_get (xs ++ x ∷ []) (length xs) ≡ Some x
    at [] = refl
    at (z ∷ xs) = let n : length (z ∷ xs) ≡ suc (length xs) = omega arith in subst (λ (j : ℕ). slice_get (z ∷ (xs ++ x ∷ [])) j ≡ Some x) (sym n) (at xs)

-- an element of a longer list is one of the list, or the last
pub get_back : {A : Type 0} (xs : List A) (x y : A) (k : ℕ) → slice_get (xs ++ x ∷ []) k ≡ Some y → (slice_get xs k ≡ Some y) ⊎ ((k ≡ length xs) × (x ≡ y))
get_back [] x y zero h = inr (refl, Prim.grind (arith, h))
get_back [] x y (suc k) h = absurd (Prim.grind (arith, h))
get_back (z ∷ xs) x y zero h = inl h
get_back (z ∷ xs) x y (suc k) h = ⊎_elim
    (λ (a : slice_get xs k ≡ Some y). inl a)
    (λ (b : (k ≡ length xs) × (x ≡ y)). let n : suc k ≡ length (z ∷ xs) = omega (arith, b.0) in inr (n, b.1))
    (get_back xs x y k h)

pub within : {A : Type 0} (xs : List A) (k : ℕ) (x : A) → slice_get xs k ≡ Some x → k < length xs
within [] k x h = absurd (Prim.grind (arith, h))
within (y ∷ xs) zero x h = omega arith
within (y ∷ xs) (suc k) x h = let r = within xs k x h in omega (arith, r)

at_front : {A : Type 0} (xs : List A) (x y : A) (k n : ℕ) → length xs ≡ n → k < n → slice_get (xs ++ x ∷ []) k ≡ Some y → slice_get xs k ≡ Some y
at_front xs x y k n same lt e =
    ⊎_elim (λ (f : slice_get xs k ≡ Some y). f) (λ (b : (k ≡ length xs) × (x ≡ y)). absurd (omega (arith, b.0, same, lt))) (get_back xs x y k e)

at_last : {A : Type 0} (xs : List A) (x y : A) (k n : ℕ) → length xs ≡ n → k ≡ n → slice_get (xs ++ x ∷ []) k ≡ Some y → x ≡ y
at_last xs x y k n same is e =
    ⊎_elim (λ (f : slice_get xs k ≡ Some y). let lt = within xs k y f in absurd (omega (arith, is, same, lt))) (λ (b : (k ≡ length xs) × (x ≡ y)). b.1) (get_back xs x y k e)

-- one held part more
pub one_held : {O P C D R : Type 0} (meaning : O → Meaning P C D R) (opens : O → List P → Type 0) (opening : Option (Opening O P)) (ns : List ℕ) (ps : List P) (vs : List ℕ) (ss : List (Known O P C)) (n : ℕ) (p : P) (v : ℕ) (s : Known O P C)
    → AreHomes meaning opens opening ns ps vs ss → IsHeld meaning opens opening n p v s
    → AreHomes meaning opens opening (ns ++ n ∷ []) (ps ++ p ∷ []) (vs ++ v ∷ []) (ss ++ s ∷ [])
one_held {O} {P} {C} meaning opens opening ns ps vs ss n p v s h one = record {
  parts = omega (arith, length-append ps (p ∷ []), length-append ns (n ∷ []), h.parts);
  versions = omega (arith, length-append vs (v ∷ []), length-append ns (n ∷ []), h.versions);
  seats = omega (arith, length-append ss (s ∷ []), length-append ns (n ∷ []), h.seats);
  each = λ k m q w t at pt vt st. ⊎_elim
      (λ (a : slice_get ns k ≡ Some m).
      let lt = within ns k m a in
      h.each k m q w t a (at_front ps p q k (length ns) h.parts lt pt) (at_front vs v w k (length ns) h.versions lt vt) (at_front ss s t k (length ns) h.seats lt st))
      (λ (b : (k ≡ length ns) × (n ≡ m)).
      let a = at_last ps p q k (length ns) h.parts b.0 pt in
      let d = at_last vs v w k (length ns) h.versions b.0 vt in
      let e = at_last ss s t k (length ns) h.seats b.0 st in
      subst (λ (x : ℕ × P × ℕ × Known O P C). IsHeld meaning opens opening x.0 x.1 x.2 x.3) (λ i. (b.1 i, a i, d i, e i)) one)
      (get_back ns n m k at);
}

-- one less
pub less_held : {O P C D R : Type 0} (meaning : O → Meaning P C D R) (opens : O → List P → Type 0) (opening : Option (Opening O P)) (ns : List ℕ) (ps : List P) (vs : List ℕ) (ss : List (Known O P C)) (n : ℕ) (p : P) (v : ℕ) (s : Known O P C)
    → AreHomes meaning opens opening (ns ++ n ∷ []) (ps ++ p ∷ []) (vs ++ v ∷ []) (ss ++ s ∷ [])
    → AreHomes meaning opens opening ns ps vs ss × IsHeld meaning opens opening n p v s
less_held meaning opens opening ns ps vs ss n p v s h =
    let a : length ps ≡ length ns = omega (arith, length-append ps (p ∷ []), length-append ns (n ∷ []), h.parts) in
    let b : length vs ≡ length ns = omega (arith, length-append vs (v ∷ []), length-append ns (n ∷ []), h.versions) in
    let c : length ss ≡ length ns = omega (arith, length-append ss (s ∷ []), length-append ns (n ∷ []), h.seats) in (
      record {
        parts = a;
        versions = b;
        seats = c;
        each = λ k m q w t at pt vt st. h.each k m q w t (get_front ns n m k at) (get_front ps p q k pt) (get_front vs v w k vt) (get_front ss s t k st);
      },
      h.each (length ns) n p v s (get_end ns n (length ns) refl) (get_end ps p (length ns) (sym a)) (get_end vs v (length ns) (sym b)) (get_end ss s (length ns) (sym c)),
    )

-- the last seat is gathered first
pub gathered_last : {O P C : Type 0} (ss : List (Known O P C)) (s : Known O P C) (v : Open O P C)
    → all_gathered (ss ++ s ∷ []) v ≡ all_gathered ss (gathered (Part s.number) s.opening s.entries v)
gathered_last [] s v = refl
gathered_last (t ∷ ss) s v = ap (λ w. gathered (Part t.number) t.opening t.entries w) (gathered_last ss s v)

least_ascend : (least count : ℕ) (ns : List ℕ) → AscendBetween least count ns → All (λ n. least ≤ n) ns
least_ascend least count [] h = All-nil (λ n. least ≤ n)
least_ascend least count (n ∷ ns) h =
    All-cons (λ n. least ≤ n) n ns h.0 (All-weaker (λ m. n + 1 ≤ m) (λ m. least ≤ m) (λ m e. omega (arith, e, h.0)) ns (least_ascend (n + 1) count ns h.2))

all_first : {A : Type 0} (P : A → Type 0) (x : A) (xs : List A) → All P (x ∷ xs) → P x
all_first P x xs h = h 0 x (omega arith)

all_rest : {A : Type 0} (P : A → Type 0) (x : A) (xs : List A) → All P (x ∷ xs) → All P xs
all_rest P x xs h = λ k d inside. h (suc k) d (omega (arith, inside))

all_both : {A : Type 0} (P Q R : A → Type 0) (xs : List A) → ((x : A) → P x → Q x → R x) → All P xs → All Q xs → All R xs
all_both P Q R [] f h k = All-nil R
all_both P Q R (x ∷ xs) f h k = All-cons R x xs (f x (all_first P x xs h) (all_first Q x xs k)) (all_both P Q R xs f (all_rest P x xs h) (all_rest Q x xs k))

-- the seats of parts in ascending order can be given one after another, where all are there
pub can_give : (least count : ℕ) (ns : List ℕ) (names : List Name) → AscendBetween least count ns → All (λ n. In (Part n) names) ns → CanGive ns names
can_give least count [] names a h = tt
can_give least count (n ∷ ns) names a h = (
  all_first (λ n. In (Part n) names) n ns h,
  can_give (n + 1) count ns (without (Part n) names) a.2
      (all_both (λ m. n + 1 ≤ m) (λ m. In (Part m) names) (λ m. In (Part m) (without (Part n) names)) ns
      (λ m e i. without_other (Part n) names (Part m) (above_part m n (omega (arith, e))) i)
      (least_ascend (n + 1) count ns a.2) (all_rest (λ n. In (Part n) names) n ns h)),
)

pub all_within : (least count : ℕ) (ns : List ℕ) → AscendBetween least count ns → All (λ n. n < count) ns
all_within least count [] h = All-nil (λ n. n < count)
all_within least count (n ∷ ns) h = All-cons (λ n. n < count) n ns h.1 (all_within (n + 1) count ns h.2)

lower : (least more count : ℕ) (ns : List ℕ) → least ≤ more → AscendBetween more count ns → AscendBetween least count ns
lower least more count [] le h = tt
lower least more count (n ∷ ns) le h = (omega (arith, le, h.0), h.1, h.2)

ascend_step : (b : Bool) (from top : ℕ) (ns : List ℕ) → from < top → AscendBetween (from + 1) top ns → AscendBetween from top (cond b (from ∷ ns) ns)
ascend_step true from top ns lt h = (omega arith, lt, h)
ascend_step false from top ns lt h = lower from (from + 1) top ns (omega arith) h

-- those numbers from one on that pass a test ascend
pub ascend_filter : (test : ℕ → Bool) (from count top : ℕ) → from + count ≤ top → AscendBetween from top (filter test (numbers from count))
ascend_filter test from zero top le = tt
ascend_filter test from (suc count) top le = ascend_step (test from) from top (filter test (numbers (from + 1) count)) (omega (arith, le)) (ascend_filter test (from + 1) count top (omega (arith, le)))

numbers-snoc : (from n : ℕ) → numbers from n ++ (from + n) ∷ [] ≡ numbers from (n + 1)
numbers-snoc from zero = let e : from + 0 ≡ from = omega arith in ap (λ k. k ∷ []) e
numbers-snoc from (suc n) =
    let e : from + suc n ≡ from + 1 + n = omega arith in
    let f : suc (n + 1) ≡ suc n + 1 = omega arith in
    ap (λ l. from ∷ l) (ap (λ k. numbers (from + 1) n ++ k ∷ []) e ∙ numbers-snoc (from + 1) n) ∙ ap (λ k. numbers from k) f

one_test : (b : Bool) (n : ℕ) (ns : List ℕ) → cond b (ns ++ n ∷ []) ns ≡ ns ++ cond b (n ∷ []) []
one_test true n ns = refl
one_test false n [] = refl
one_test false n (m ∷ ns) = ap (λ l. m ∷ l) (one_test false n ns)

-- the members below one number more
pub members-more : (set n : ℕ) → members (n + 1) set ≡ cond (has_bit set n) (members n set ++ n ∷ []) (members n set)
members-more set n =
    let e : 0 + n ≡ n = omega arith in
    ap (λ l. filter (has_bit set) l) (sym (numbers-snoc 0 n) ∙ ap (λ k. numbers 0 n ++ k ∷ []) e)
    ∙ (filter-append (has_bit set) (numbers 0 n) (n ∷ []) ∙ sym (one_test (has_bit set n) n (members n set)))

pub members_then : (set n : ℕ) → set / 2 ^ n % 2 ≡ 1 → members (n + 1) set ≡ members n set ++ n ∷ []
members_then set n h = members-more set n ∙ ap (λ b. cond b (members n set ++ n ∷ []) (members n set)) (eq-eqb (set / 2 ^ n % 2) 1 h)

no_bit : (a : ℕ) (b : Bool) → (a == 1) ≡ b → (a ≡ 1 → ⊥) → (a == 1) ≡ false
no_bit a true is h = let one : a ≡ 1 = Prim.grind (arith, nat_tests, is) in absurd (h one)
no_bit a false is h = is

pub members_else : (set n : ℕ) → (set / 2 ^ n % 2 ≡ 1 → ⊥) → members (n + 1) set ≡ members n set
members_else set n h = members-more set n ∙ ap (λ b. cond b (members n set ++ n ∷ []) (members n set)) (no_bit (set / 2 ^ n % 2) (set / 2 ^ n % 2 == 1) refl h)

-- a home that was taken out
pub held_home : {O P C D R : Type 0} (meaning : O → Meaning P C D R) (opens : O → List P → Type 0) (opening : Option (Opening O P)) (n : ℕ) (p : P) (v : ℕ) (s : Known O P C)
    → s.number ≡ n → s.opening ≡ opening → IsHome meaning opens opening s.number p v s.entries → IsHeld meaning opens opening n p v s
held_home {O} {P} {C} meaning opens opening n p v s is same h =
    record { number_is = is; opening_is = same; home = subst (λ (m : ℕ). IsHome meaning opens opening m p v s.entries) is h }
