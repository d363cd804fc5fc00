-- Tokens as they are given out at first, and taken back in the end.
use Rattle.std.proofs.Common.{◌≡◌, ◌⊎◌, ℕ, zero, suc, ◌+◌, ◌<◌, List, [], ◌∷◌, ◌++◌, map, Bool, true, false, true≢false, refl, sym, ap, ◌∙◌, subst, ⊎_elim, inl, inr, arith, Option, Some, All, cond, slice_get, replicate}
use Rattle.std.proofs.lemmas.List.{map-append}
use Rattle.std.proofs.lemmas.List.Elements.{All-append, All-cons, All-nil}
use Rattle.std.proofs.lemmas.Bool.Decides.{nat_tests}
use Rattle.room_core.specs.declared.entry.Entry.{Entry}
use Rattle.room_core.specs.Parts.{numbers}
use Rattle.room_core.specs.Whole.{Meaning}
use Rattle.edit_journal.specs.declared.name.Name.{Name}
use Rattle.edit_journal.specs.declared.name.Name.TheVariants.{Part, Station}
use Rattle.edit_journal.specs.Seats.{Opening, In, is_same, keeper, all_names, without}
use Rattle.edit_journal.specs.Turns.{Known, open_of, IsKeptLog, AreFresh, StandsIn}
use Rattle.edit_journal.proofs.Moves.{in_append}

same_parts : (x name : Name) → is_same x name ≡ true → x ≡ name
same_parts (Part n) (Part m) e = let q : n ≡ m = Prim.grind (arith, nat_tests, e) in ap (λ k. Part k) q
same_parts (Part n) (Station m) e = absurd (true≢false (sym e))
same_parts (Station n) (Part m) e = absurd (true≢false (sym e))
same_parts (Station n) (Station m) e = let q : n ≡ m = Prim.grind (arith, nat_tests, e) in ap (λ k. Station k) q

keeps_step : (b : Bool) (n x name : Name) (ms ns : List Name) → is_same n name ≡ b → (x ≡ name → ⊥) → (In x ns → In x ms) → (x ≡ n) ⊎ In x ns → In x (cond b ms (n ∷ ms))
keeps_step true n x name ms ns is other f i = ⊎_elim (λ (e : x ≡ n). absurd (other (e ∙ same_parts n name is))) (λ (j : In x ns). f j) i
keeps_step false n x name ms ns is other f i = ⊎_elim (λ (e : x ≡ n). inl e) (λ (j : In x ns). inr (f j)) i

-- another name stays
pub without_other : (name : Name) (ns : List Name) (x : Name) → (x ≡ name → ⊥) → In x ns → In x (without name ns)
without_other name [] x other i = i
without_other name (n ∷ ns) x other i = keeps_step (is_same n name) n x name (without name ns) ns refl other (without_other name ns x other) i

abbrev part_of : Name → ℕ
part_of (Part n) = n
part_of (Station n) = n

abbrev is_part : Name → Bool
is_part (Part n) = true
is_part (Station n) = false

pub above_part : (n p : ℕ) → p < n → Part n ≡ Part p → ⊥
above_part n p lt e = let q = ap part_of e in omega (arith, lt, q)

pub above_station : (n p : ℕ) → p < n → Station n ≡ Station p → ⊥
above_station n p lt e = let q = ap part_of e in omega (arith, lt, q)

pub no_part : (n p : ℕ) → Station n ≡ Part p → ⊥
no_part n p e = true≢false (sym (ap is_part e))

pub numbers-snoc : (from n : ℕ) → numbers from n ++ (from + n) ∷ [] ≡ numbers from (n + 1)
numbers-snoc from zero = let e : from + 0 ≡ from = omega arith in ap (λ k. k ∷ []) e
numbers-snoc from (suc n) =
    let e : from + suc n ≡ from + 1 + n = omega arith in
    let f : suc (n + 1) ≡ suc n + 1 = omega arith in
    ap (λ l. from ∷ l) (ap (λ k. numbers (from + 1) n ++ k ∷ []) e ∙ numbers-snoc (from + 1) n) ∙ ap (λ k. numbers from k) f

pub fresh_more : {O P C : Type 0} (o : Option (Opening O P)) (n : ℕ) (ts : List (Known O P C)) (t : Known O P C) → AreFresh o n ts
    → t.number ≡ n → t.opening ≡ o → t.entries ≡ [] → AreFresh o (n + 1) (ts ++ t ∷ [])
fresh_more {O} {P} {C} o n ts t h is opens empty =
    let e : n ≡ 0 + n = omega arith in
    let F : Known O P C → Type 0 = λ t. (t.opening ≡ o) × (t.entries ≡ []) in (
      map-append (λ (t : Known O P C). t.number) ts (t ∷ []) ∙ (ap (λ l. l ++ t.number ∷ []) h.0 ∙ (ap (λ k. numbers 0 n ++ k ∷ []) (is ∙ e) ∙ numbers-snoc 0 n)),
      All-append F ts (t ∷ []) h.1 (All-cons F t [] (opens, empty) (All-nil F)),
    )

pub fresh_none : {O P C : Type 0} (o : Option (Opening O P)) (ts : List (Known O P C)) → ts ≡ [] → AreFresh o 0 ts
fresh_none {O} {P} {C} o ts e = subst (λ (ts : List (Known O P C)). AreFresh o 0 ts) (sym e) (refl, All-nil (λ (t : Known O P C). (t.opening ≡ o) × (t.entries ≡ [])))

-- one pass more stands in the journal
pub stands_more : {O P C D R : Type 0} (meaning : O → Meaning P C D R) (opening : Option (Opening O P)) (entries : List (Entry C)) (ts : List (Known O P C)) (t : Known O P C)
    → All (λ t. StandsIn meaning opening entries (Station t.number) t.entries) ts → StandsIn meaning opening entries (Station t.number) t.entries
    → All (λ t. StandsIn meaning opening entries (Station t.number) t.entries) (ts ++ t ∷ [])
stands_more {O} {P} {C} meaning opening entries ts t all one =
    let F : Known O P C → Type 0 = λ t. StandsIn meaning opening entries (Station t.number) t.entries in
    All-append F ts (t ∷ []) all (All-cons F t [] one (All-nil F))

pub in_last : {A : Type 0} (x : A) (xs : List A) → In x (xs ++ x ∷ [])
in_last x [] = inl refl
in_last x (y ∷ xs) = inr (in_last x xs)

in_left : {A : Type 0} (x : A) (xs ys : List A) → In x xs → In x (xs ++ ys)
in_left x [] ys i = absurd i
in_left {A} x (z ∷ xs) ys i = ⊎_elim (λ (e : x ≡ z). inl e) (λ (j : In x xs). inr (in_left x xs ys j)) i

in_right : {A : Type 0} (x : A) (xs ys : List A) → In x ys → In x (xs ++ ys)
in_right x [] ys i = i
in_right x (z ∷ xs) ys i = inr (in_right x xs ys i)

part_in : (n from count : ℕ) → n < count → In (Part (from + n)) (map (λ n. Part n) (numbers from count))
part_in n from zero lt = absurd (omega (arith, lt))
part_in zero from (suc count) lt = let e : from + 0 ≡ from = omega arith in inl (ap (λ k. Part k) e)
part_in (suc n) from (suc count) lt =
    let e : from + 1 + n ≡ from + suc n = omega arith in
    inr (subst (λ k. In (Part k) (map (λ n. Part n) (numbers (from + 1) count))) e (part_in n (from + 1) count (omega (arith, lt))))

station_in : (n from count : ℕ) → n < count → In (Station (from + n)) (map (λ n. Station n) (numbers from count))
station_in n from zero lt = absurd (omega (arith, lt))
station_in zero from (suc count) lt = let e : from + 0 ≡ from = omega arith in inl (ap (λ k. Station k) e)
station_in (suc n) from (suc count) lt =
    let e : from + 1 + n ≡ from + suc n = omega arith in
    inr (subst (λ k. In (Station k) (map (λ n. Station n) (numbers (from + 1) count))) e (station_in n (from + 1) count (omega (arith, lt))))

pub has_part : (parts stations n : ℕ) → n < parts → In (Part n) (all_names parts stations)
has_part parts stations n lt =
    let e : 0 + n ≡ n = omega arith in
    in_left (Part n) (map (λ n. Part n) (numbers 0 parts)) (map (λ n. Station n) (numbers 0 stations)) (subst (λ k. In (Part k) (map (λ n. Part n) (numbers 0 parts))) e (part_in n 0 parts lt))

pub has_own_station : (parts stations n : ℕ) → n < stations → In (Station n) (all_names parts stations)
has_own_station parts stations n lt =
    let e : 0 + n ≡ n = omega arith in
    in_right (Station n) (map (λ n. Part n) (numbers 0 parts)) (map (λ n. Station n) (numbers 0 stations)) (subst (λ k. In (Station k) (map (λ n. Station n) (numbers 0 stations))) e (station_in n 0 stations lt))

no_station : (s from count : ℕ) → In (Station s) (map (λ n. Part n) (numbers from count)) → ⊥
no_station s from zero i = i
no_station s from (suc count) i = ⊎_elim (λ (e : Station s ≡ Part from). no_part s from e) (λ j. no_station s (from + 1) count j) i

station_below : (s from count : ℕ) → In (Station s) (map (λ n. Station n) (numbers from count)) → s < from + count
station_below s from zero i = absurd i
station_below s from (suc count) i = ⊎_elim
    (λ (e : Station s ≡ Station from). let q = ap part_of e in omega (arith, q))
    (λ (j : In (Station s) (map (λ n. Station n) (numbers (from + 1) count))). let r = station_below s (from + 1) count j in omega (arith, r)) i

all_zero : (n s : ℕ) → s < n → slice_get {X = ℕ} (replicate n 0) s ≡ Some 0
all_zero zero s lt = absurd (omega (arith, lt))
all_zero (suc n) zero lt = refl
all_zero (suc n) (suc s) lt = all_zero n s (omega (arith, lt))

-- a new journal is as it has to be
pub kept_first : {O P C D R : Type 0} (meaning : O → Meaning P C D R) (opens : O → List P → Type 0) (parts stations : ℕ) (o : Opening O P) → opens o.0 o.1
    → IsKeptLog {C = C} meaning opens stations (open_of (keeper (Some o) (all_names parts stations) [])) (replicate stations 0)
kept_first {O} {P} {C} meaning opens parts stations o can = record {
  journal = (o, refl, can, record { within = omega arith; applies = refl; rise = tt }, All-nil (λ (e : Entry C). e.station < stations));
  each_last = λ s lt. all_zero stations s lt;
  own_stations = λ s i. ⊎_elim (λ (j : In (Station s) (map (λ n. Part n) (numbers 0 parts))). absurd (no_station s 0 parts j))
      (λ (j : In (Station s) (map (λ n. Station n) (numbers 0 stations))). let r = station_below s 0 stations j in omega (arith, r))
      (in_append (Station s) (map (λ n. Part n) (numbers 0 parts)) (map (λ n. Station n) (numbers 0 stations)) i);
}
