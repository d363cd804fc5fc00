-- Entries that are made again, one after another.
use Rattle.std.proofs.Common.{◌≡◌, ◌≢◌, ℕ, zero, suc, ◌+◌, ◌<◌, ◌==◌, max, cond, map, All, List, [], ◌∷◌, ◌++◌, Bool, true, false, Some, Option, fold, length, slice_get, slice_set, refl, sym, ap, subst, ◌∙◌, arith, append-nil, length-append}
use Rattle.std.proofs.lemmas.Bool.Decides.{nat_tests}
use Rattle.std.proofs.lemmas.List.Elements.{All-get_or, filter-append}
use Rattle.std.proofs.lemmas.Option.{get_or_from_slice_get, same_Some, slice_get_within}
use Rattle.edit_journal.specs.Seats.{Opening}
use Rattle.edit_journal.specs.Turns.{AreFresh, Known, last_of}
use Rattle.edit_journal.proofs.Lasts.{lasts-more}
use Rattle.room_core.specs.declared.entry.Entry.{Entry}
use Rattle.room_core.specs.Parts.{numbers}
use Rattle.room_core.specs.Projection.{of_station}
use Rattle.room_core.proofs.WholeParts.{get-set_other}
use Rattle.kept_rooms.specs.Making.{HasOwn, IsMade, IsMadeAt}
use Rattle.kept_rooms.specs.Records.{AreLasts}

not_same : (a b : ℕ) → (a == b) ≡ false → a ≢ b
not_same a b e = λ h. grind (arith, nat_tests, e, h)

is_same : (a b : ℕ) → (a == b) ≡ true → a ≡ b
is_same a b e = grind (arith, nat_tests, e)

own_step : {C : Type 0} (b : Bool) (own : List (Entry C)) (e : Entry C) → own ++ cond b (e ∷ []) [] ≡ cond b (own ++ e ∷ []) own
own_step true own e = refl
own_step false own e = append-nil own

-- the entries of a station, with one entry more
own_after : {C : Type 0} (s : ℕ) (entries : List (Entry C)) (e : Entry C)
    → of_station s (entries ++ e ∷ []) ≡ cond (e.station == s) (of_station s entries ++ e ∷ []) (of_station s entries)
own_after s entries e =
    filter-append (λ e. e.station == s) entries (e ∷ []) ∙ own_step (e.station == s) (of_station s entries) e

own_same : {C : Type 0} (s : ℕ) (entries : List (Entry C)) (e : Entry C) → (e.station == s) ≡ true → of_station s (entries ++ e ∷ []) ≡ of_station s entries ++ e ∷ []
own_same s entries e is = own_after s entries e ∙ ap (λ b. cond b (of_station s entries ++ e ∷ []) (of_station s entries)) is

own_other : {C : Type 0} (s : ℕ) (entries : List (Entry C)) (e : Entry C) → (e.station == s) ≡ false → of_station s (entries ++ e ∷ []) ≡ of_station s entries
own_other s entries e is = own_after s entries e ∙ ap (λ b. cond b (of_station s entries ++ e ∷ []) (of_station s entries)) is

one_more : {A : Type 0} (xs : List A) (x : A) → length (xs ++ x ∷ []) ≡ length xs + 1
one_more xs x = length-append xs (x ∷ [])

get-set : {A : Type 0} (xs : List A) (n : ℕ) (x y : A) → slice_get xs n ≡ Some y → slice_get (slice_set xs n x) n ≡ Some x
get-set [] n x y h = absurd (grind (arith, h))
get-set (z ∷ xs) zero x y h = refl
get-set (z ∷ xs) (suc n) x y h = get-set xs n x y h

module _ {O P C : Type 0} (entries : List (Entry C)) (e : Entry C) (passes : List (Known O P C)) (p q : Known O P C) where
  -- the pass whose station has made the entry
  has_one : (s : ℕ) → (e.station == s) ≡ true → HasOwn entries s p → IsMadeAt (length entries) e p q → HasOwn (entries ++ e ∷ []) s q
  has_one s is h m = record {
    number_is = m.number_is ∙ h.number_is;
    within = let n = m.length_is in omega (arith, n, one_more entries e);
    own = subst (λ k. of_station k q.entries ≡ of_station k p.entries ++ e ∷ []) h.number_is m.own
        ∙ (ap (λ l. l ++ e ∷ []) h.own ∙ sym (own_same s entries e is));
  }

  -- the pass of another
  has_none : (s : ℕ) (r : Known O P C) → (e.station == s) ≡ false → HasOwn entries s r → HasOwn (entries ++ e ∷ []) s r
  has_none s r is h = record {
    number_is = h.number_is;
    within = let n = h.within in omega (arith, n, one_more entries e);
    own = h.own ∙ sym (own_other s entries e is);
  }

  has_own : (b : Bool) (s : ℕ) (r : Known O P C) → (e.station == s) ≡ b → ((s : ℕ) (r : Known O P C) → slice_get passes s ≡ Some r → HasOwn entries s r)
      → slice_get passes e.station ≡ Some p → IsMadeAt (length entries) e p q → slice_get (slice_set passes e.station q) s ≡ Some r → HasOwn (entries ++ e ∷ []) s r
  has_own true s r is each at made there =
      let same = is_same e.station s is in
      let old : HasOwn entries s p = each s p (subst (λ k. slice_get passes k ≡ Some p) same at) in
      let new : slice_get (slice_set passes e.station q) s ≡ Some q =
      subst (λ k. slice_get (slice_set passes e.station q) k ≡ Some q) same (get-set passes e.station q p at) in
      let one : q ≡ r = same_Some q r (sym new ∙ there) in
      subst (λ k. HasOwn (entries ++ e ∷ []) s k) one (has_one s is old made)
  has_own false s r is each at made there =
      has_none s r is (each s r (sym (get-set_other passes e.station s q (not_same e.station s is)) ∙ there))

-- one entry more was made
pub made_more : {O P C : Type 0} (entries : List (Entry C)) (lasts : List ℕ) (passes : List (Known O P C)) (e : Entry C) (p q : Known O P C)
    → IsMade entries lasts passes → e.station < 16 → last_of e.station entries < e.number → slice_get passes e.station ≡ Some p → IsMadeAt (length entries) e p q
    → IsMade (entries ++ e ∷ []) (slice_set lasts e.station e.number) (slice_set passes e.station q)
made_more entries lasts passes e p q h low above at made = record {
  lasts_are = lasts-more 16 lasts entries e low above h.lasts_are;
  each = λ s r there. has_own entries e passes p q (e.station == s) s r refl h.each at made there;
}

-- what the pass of a station knows of its last number
pub last_there : {O P C : Type 0} (entries : List (Entry C)) (s : ℕ) (p : Known O P C) → HasOwn entries s p → last_of p.number p.entries ≡ last_of s entries
last_there entries s p h =
    ap (λ k. last_of k p.entries) h.number_is ∙ ap (λ l. fold (λ m e. max m e.number) 0 l) h.own

numbers_at : (from n s x : ℕ) → slice_get (numbers from n) s ≡ Some x → x ≡ from + s
numbers_at from zero s x h = absurd (grind (arith, h))
numbers_at from (suc n) zero x h = let e : from ≡ x = cc in omega (arith, e)
numbers_at from (suc n) (suc s) x h = let e = numbers_at (from + 1) n s x h in omega (arith, e)

map_at : {A B : Type 0} (f : A → B) (xs : List A) (s : ℕ) (x : A) → slice_get xs s ≡ Some x → slice_get (map f xs) s ≡ Some (f x)
map_at f [] s x h = absurd (grind (arith, h))
map_at f (y ∷ ys) zero x h = let e : y ≡ x = cc in ap (λ z. Some (f z)) e
map_at f (y ∷ ys) (suc s) x h = map_at f ys s x h

all_at : {A : Type 0} (F : A → Type 0) (xs : List A) (s : ℕ) (x : A) → All F xs → slice_get xs s ≡ Some x → F x
all_at F xs s x all at = subst F (get_or_from_slice_get xs s x x at) (All-get_or F xs s x (slice_get_within xs s x at) all)

-- a pass that is fresh
first_own : {O P C : Type 0} (opening : Option (Opening O P)) (count : ℕ) (passes : List (Known O P C)) (s : ℕ) (p : Known O P C)
    → AreFresh opening count passes → slice_get passes s ≡ Some p → HasOwn [] s p
first_own {O} {P} {C} opening count passes s p fresh at =
    let none : p.entries ≡ [] = (all_at (λ (t : Known O P C). (t.opening ≡ opening) × (t.entries ≡ [])) passes s p fresh.1 at).1 in
    let there = map_at (λ (t : Known O P C). t.number) passes s p at in
    let number = numbers_at 0 count s p.number (subst (λ l. slice_get l s ≡ Some p.number) fresh.0 there) in
    record {
      number_is = omega (arith, number);
      within = let long = ap length none in omega (arith, long);
      own = ap (of_station s) none;
    }

-- before the first entry
pub made_first : {O P C : Type 0} (opening : Option (Opening O P)) (count : ℕ) (lasts : List ℕ) (passes : List (Known O P C))
    → AreLasts {C = C} [] lasts → AreFresh opening count passes → IsMade [] lasts passes
made_first opening count lasts passes none fresh = record {
  lasts_are = none;
  each = λ s p at. first_own opening count passes s p fresh at;
}
