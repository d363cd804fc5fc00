-- The homes of a new room.
use Rattle.std.proofs.Common.{◌≡◌, ℕ, zero, suc, ◌+◌, ◌<◌, ◌≤◌, List, [], ◌∷◌, ◌++◌, length, map, drop, take, get_or, All, Bool, true, false, cond, ◌==◌, Option, Some, slice_get, refl, sym, ap, ◌∙◌, subst, arith}
use Rattle.std.specs.List.{list_any}
use Rattle.std.proofs.lemmas.List.{length-append, map-append, get_or_append_left}
use Rattle.std.proofs.Math.Seq.{get_or-append_seam}
use Rattle.room_core.specs.declared.entry.Entry.{Entry}
use Rattle.room_core.specs.Parts.{AreGood, numbers}
use Rattle.room_core.specs.Projection.{of_part}
use Rattle.room_core.specs.Whole.{Meaning}
use Rattle.edit_journal.specs.Seats.{Opening}
use Rattle.edit_journal.specs.Turns.{Known, AreFresh}
use Rattle.track_locks.specs.Homes.{IsHome, AreHomes}
use Rattle.track_locks.proofs.Stands.{one_at}

pub at_drop : {A : Type 0} (xs : List A) (k : ℕ) (x : A) (rest : List A) → drop k xs ≡ x ∷ rest → slice_get xs k ≡ Some x
at_drop [] zero x rest h = absurd (Prim.grind (arith, h))
at_drop [] (suc k) x rest h = absurd (Prim.grind (arith, h))
at_drop (y ∷ xs) zero x rest h = Prim.grind (arith, h)
at_drop (y ∷ xs) (suc k) x rest h = at_drop xs k x rest h

pub after_drop : {A : Type 0} (xs : List A) (k : ℕ) (x : A) (rest : List A) → drop k xs ≡ x ∷ rest → rest ≡ drop (suc k) xs
after_drop [] zero x rest h = absurd (Prim.grind (arith, h))
after_drop [] (suc k) x rest h = absurd (Prim.grind (arith, h))
after_drop (y ∷ xs) zero x rest h = Prim.grind (arith, h)
after_drop (y ∷ xs) (suc k) x rest h = after_drop xs k x rest h

pub none_after : {A : Type 0} (xs : List A) (k : ℕ) → drop k xs ≡ [] → length xs ≤ k
none_after [] k h = omega arith
none_after (y ∷ xs) zero h = absurd (Prim.grind (arith, h))
none_after (y ∷ xs) (suc k) h = let r = none_after xs k h in omega (arith, r)

pub good_length : {P : Type 0} (good : ℕ → P → Type 0) (from count : ℕ) (ps : List P) → AreGood good (numbers from count) ps → length ps ≡ count
good_length good from zero [] h = omega arith
good_length good from zero (p ∷ ps) h = absurd h
good_length good from (suc count) [] h = absurd h
good_length good from (suc count) (p ∷ ps) h = let r = good_length good (from + 1) count ps h.1 in omega (arith, r)

numbers_length : (from count : ℕ) → length (numbers from count) ≡ count
numbers_length from zero = omega arith
numbers_length from (suc count) = let r = numbers_length (from + 1) count in omega (arith, r)

pub numbers_at : (from count k d : ℕ) → k < count → get_or (numbers from count) k d ≡ from + k
numbers_at from zero k d lt = absurd (omega (arith, lt))
numbers_at from (suc count) zero d lt = omega arith
numbers_at from (suc count) (suc k) d lt = let r = numbers_at (from + 1) count k d (omega (arith, lt)) in omega (arith, r)

pub map_length : {A B : Type 0} (f : A → B) (xs : List A) → length (map f xs) ≡ length xs
map_length f [] = omega arith
map_length f (x ∷ xs) = let r = map_length f xs in omega (arith, r)

-- so many fresh tokens
pub fresh_length : {O P C : Type 0} (o : Option (Opening O P)) (n : ℕ) (ts : List (Known O P C)) → AreFresh o n ts → length ts ≡ n
fresh_length {O} {P} {C} o n ts h =
    let a = map_length (λ (t : Known O P C). t.number) ts in
    let b = ap length h.0 in
    let d = numbers_length 0 n in
    omega (arith, a, b, d)

-- the token at a place of fresh ones has its number, and knows nothing yet
pub fresh_at : {O P C : Type 0} (o : Option (Opening O P)) (n : ℕ) (ts ys : List (Known O P C)) (t : Known O P C) (rest : List (Known O P C))
    → AreFresh o n ts → ys ++ t ∷ rest ≡ ts → (t.number ≡ length ys) × (t.opening ≡ o) × (t.entries ≡ []) × (length ys < n)
fresh_at {O} {P} {C} o n ts ys t rest h is =
    let F : Known O P C → Type 0 = λ t. (t.opening ≡ o) × (t.entries ≡ []) in
    let f : Known O P C → ℕ = λ t. t.number in
    let g : AreFresh o n (ys ++ t ∷ rest) = subst (λ (l : List (Known O P C)). AreFresh o n l) (sym is) h in
    let count = fresh_length o n (ys ++ t ∷ rest) g in
    let lt : length ys < length (ys ++ t ∷ rest) = omega (arith, length-append ys (t ∷ rest)) in
    let inside : length ys < n = omega (arith, lt, count) in
    let one = subst F (get_or-append_seam ys t rest t) (g.1 (length ys) t lt) in
    let at : get_or (map f (ys ++ t ∷ rest)) (length (map f ys)) 0 ≡ f t = ap (λ l. get_or l (length (map f ys)) 0) (map-append f ys (t ∷ rest)) ∙ get_or-append_seam (map f ys) (f t) (map f rest) 0 in
    let same : get_or (map f (ys ++ t ∷ rest)) (length ys) 0 ≡ f t = ap (λ k. get_or (map f (ys ++ t ∷ rest)) k 0) (sym (map_length f ys)) ∙ at in
    let number = sym same ∙ (ap (λ l. get_or l (length ys) 0) g.0 ∙ numbers_at 0 n (length ys) 0 inside) in
    (omega (arith, number), one.0, one.1, inside)

-- a part of the opening, with a seat that knows no entry
pub first_home : {O P C D R : Type 0} (meaning : O → Meaning P C D R) (opens : O → List P → Type 0) (o : Opening O P) (opening : Option (Opening O P)) (n : ℕ) (p : P) (entries : List (Entry C))
    → opening ≡ Some o → opens o.0 o.1 → entries ≡ [] → slice_get o.1 n ≡ Some p → IsHome meaning opens opening n p 0 entries
first_home {O} {P} {C} meaning opens o opening n p entries is can none at =
    subst (λ (l : List (Entry C)). IsHome meaning opens opening n p 0 l) (sym none)
    record {
      history = (o, is, can, record { within = omega arith; applies = refl; rise = tt });
      at = (o, is, o.1, refl, at);
      counted = (o, is, omega arith);
    }

-- the elements up to one more
pub take_more : {A : Type 0} (xs : List A) (i : ℕ) (d : A) → i < length xs → take (i + 1) xs ≡ take i xs ++ get_or xs i d ∷ []
take_more {A} xs i d lt = let e : i + 1 ≡ suc i = omega arith in ap (λ k. take k xs) e ∙ by_suc xs i lt
  where
    by_suc : (xs : List A) (i : ℕ) → i < length xs → take (suc i) xs ≡ take i xs ++ get_or xs i d ∷ []
    by_suc [] i lt = absurd (omega (arith, lt))
    by_suc (x ∷ xs) zero lt = refl
    by_suc (x ∷ xs) (suc i) lt = ap (λ l. x ∷ l) (by_suc xs i (omega (arith, lt)))

pub part_le : {C : Type 0} (names : C → List ℕ) (n : ℕ) (entries : List (Entry C)) → length (of_part names n entries) ≤ length entries
part_le names n [] = omega arith
part_le names n (e ∷ es) = kept_le (list_any (λ k. k == n) (names e.call)) e (of_part names n es) es (part_le names n es)
  where
    kept_le : {A : Type 0} (b : Bool) (x : A) (xs ys : List A) → length xs ≤ length ys → length (cond b (x ∷ xs) xs) ≤ length (x ∷ ys)
    kept_le true x xs ys h = omega (arith, h)
    kept_le false x xs ys h = omega (arith, h)

map_at : (vs : List ℕ) (k d : ℕ) → k < length vs → slice_get (map (λ v. v + 1) vs) k ≡ Some (get_or vs k d + 1)
map_at [] k d lt = absurd (omega (arith, lt))
map_at (v ∷ vs) zero d lt = refl
map_at (v ∷ vs) (suc k) d lt = map_at vs k d (omega (arith, lt))

-- a version that counts one entry more is far from the greatest number
pub few_versions : {O P C D R : Type 0} (meaning : O → Meaning P C D R) (opens : O → List P → Type 0) (opening : Option (Opening O P)) (ns : List ℕ) (ps : List P) (vs : List ℕ) (ss : List (Known O P C))
    → AreHomes meaning opens opening ns ps (map (λ v. v + 1) vs) ss → All (λ v. v < 4294967295) vs
few_versions {O} {P} {C} meaning opens opening ns ps vs ss h = λ k d lt.
    let a = map_length (λ (v : ℕ). v + 1) vs in
    let n = one_at ns k (omega (arith, lt, a, h.versions)) in
    let p = one_at ps k (omega (arith, lt, a, h.versions, h.parts)) in
    let s = one_at ss k (omega (arith, lt, a, h.versions, h.seats)) in
    let one = h.each k n.0 p.0 (get_or vs k d + 1) s.0 n.1 p.1 (map_at vs k d lt) s.1 in
    let c = one.home.counted in
    omega (arith, c.2, part_le (meaning c.0.0).names n.0 s.0.entries, one.home.history.3.within)

pub all_front : {A : Type 0} (P : A → Type 0) (xs : List A) (x : A) → All P (xs ++ x ∷ []) → All P xs
all_front P xs x h = λ k d lt. subst P (get_or_append_left xs (x ∷ []) d k lt) (h k d (omega (arith, lt, length-append xs (x ∷ []))))

pub all_end : {A : Type 0} (P : A → Type 0) (xs : List A) (x : A) → All P (xs ++ x ∷ []) → P x
all_end P xs x h = subst P (get_or-append_seam xs x [] x) (h (length xs) x (omega (arith, length-append xs (x ∷ []))))
