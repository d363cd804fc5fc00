-- Passes that look, once all records are made entries.
use Rattle.std.proofs.Common.{◌≡◌, ℕ, zero, suc, ◌≤◌, ◌==◌, ◌⊎◌, inl, inr, ⊎_elim, max, List, [], ◌∷◌, ◌++◌, Some, IsSome, length, take, drop, fold, slice_get, refl, sym, ap, subst, ◌∙◌, arith, length-append, take-append-drop}
use Rattle.std.proofs.lemmas.List.Elements.{filter-append}
use Rattle.std.proofs.lemmas.Option.{same_Some}
use Rattle.room_core.specs.declared.entry.Entry.{Entry}
use Rattle.room_core.specs.History.{replay}
use Rattle.room_core.specs.Projection.{of_station}
use Rattle.room_core.specs.Whole.{Meaning, whole}
use Rattle.edit_journal.specs.Turns.{Known}
use Rattle.cut_room.specs.Rooms.{IsAtPoint}
use Rattle.kept_rooms.specs.Making.{HasOwn}
use Rattle.kept_rooms.specs.Rooms.{EachKnowsOwn, KnowsAll, KnowsOwn}
use Rattle.kept_rooms.proofs.OneReading.{front_some}

-- nothing more
nothing_more : {A : Type 0} (xs ys : List A) → xs ++ ys ≡ xs → ys ≡ []
nothing_more [] ys e = e
nothing_more (x ∷ xs) ys e = nothing_more xs ys (tails e) where
  tails : {A : Type 0} {x : A} {us vs : List A} → x ∷ us ≡ x ∷ vs → us ≡ vs
  tails h = cc

no_end : {A : Type 0} (xs ys : List A) → xs ++ ys ≡ [] → ys ≡ []
no_end [] ys h = h
no_end (x ∷ xs) ys h = cc

drop_beyond : {A : Type 0} (n : ℕ) (xs ys : List A) → length xs ≤ n → (front : List A) × (ys ≡ front ++ drop n (xs ++ ys))
drop_beyond zero [] ys h = ([], refl)
drop_beyond (suc n) [] ys h = (take (suc n) ys, sym (take-append-drop (suc n) ys))
drop_beyond zero (x ∷ xs) ys h = absurd (omega (arith, h))
drop_beyond (suc n) (x ∷ xs) ys h = drop_beyond n xs ys (omega (arith, h))

-- what a pass is told after that many entries has none of its station
later_none : {C : Type 0} (s n : ℕ) (known more : List (Entry C)) → length known ≤ n → of_station s (known ++ more) ≡ of_station s known → of_station s (drop n (known ++ more)) ≡ []
later_none s n known more within same =
    let none = nothing_more (of_station s known) (of_station s more) (sym (filter-append (λ e. e.station == s) known more) ∙ same) in
    let there = drop_beyond n known more within in
    let split = filter-append (λ e. e.station == s) there.0 (drop n (known ++ more)) in
    no_end (of_station s there.0) (of_station s (drop n (known ++ more))) (sym split ∙ (ap (of_station s) (sym there.1) ∙ none))

-- a pass that looks whether it has been told of all entries
pub knows_own : {O P C D R : Type 0} (m : Meaning P C D R) (opening : List P) (entries : List (Entry C)) (s point : ℕ) (p q : Known O P C)
    → HasOwn entries s p → IsAtPoint m opening p q point → length entries ≤ point → KnowsOwn m opening entries s q
knows_own m opening entries s point p q h at told =
    let number = at.stays.goes_on.number_is ∙ h.number_is in
    let begins = at.stays.goes_on.front in
    let own : of_station s q.entries ≡ of_station s p.entries = subst (λ k. of_station k q.entries ≡ of_station k p.entries) h.number_is at.stays.own in
    let longer : of_station s (p.entries ++ begins.0) ≡ of_station s p.entries = ap (of_station s) (sym begins.1) ∙ own in
    record {
      number_is = number;
      legal = at.legal;
      told = let n = at.point_is in omega (arith, n, told);
      own = own ∙ h.own;
      none_later = ap (λ l. of_station s (drop (length entries) l)) begins.1 ∙ later_none s (length entries) p.entries begins.0 h.within longer;
      last = ap (λ l. fold (λ m e. max m e.number) 0 l) (own ∙ h.own);
    }

-- the pass that read the kept entries
pub knows_all : {O P C D R : Type 0} (m : Meaning P C D R) (opening : List P) (entries copies : List (Entry C)) (point : ℕ) (p q : Known O P C)
    → p.entries ≡ [] → IsAtPoint m opening p q point → copies ≡ take (length entries) (drop 0 q.entries) → copies ≡ entries → KnowsAll m opening entries q
knows_all m opening entries copies point p q none at are same = record {
  legal = at.legal;
  begins = (drop (length entries) q.entries, sym (take-append-drop (length entries) q.entries) ∙ ap (λ l. l ++ drop (length entries) q.entries) (sym are ∙ same));
  own = subst (λ k. of_station k q.entries ≡ []) (sym at.stays.goes_on.number_is) (at.stays.own ∙ ap (of_station p.number) none);
}

-- the entries of a pass that knows all apply
pub all_apply : {O P C D R : Type 0} (m : Meaning P C D R) (opening : List P) (entries : List (Entry C)) (pass : Known O P C) → KnowsAll m opening entries pass
    → IsSome (replay (whole m) opening entries)
all_apply m opening entries pass h =
    front_some (whole m) opening entries h.begins.0 (subst (λ l. IsSome (replay (whole m) opening l)) h.begins.1 h.legal.applies)

at_end : {A : Type 0} (xs : List A) (x y : A) (s : ℕ) → slice_get (xs ++ x ∷ []) s ≡ Some y → (slice_get xs s ≡ Some y) ⊎ ((s ≡ length xs) × (x ≡ y))
at_end [] x y zero h = inr (refl, same_Some x y h)
at_end [] x y (suc s) h = absurd (grind (arith, h))
at_end (z ∷ xs) x y zero h = inl h
at_end (z ∷ xs) x y (suc s) h = ⊎_elim
    (λ (there : slice_get xs s ≡ Some y). inl there)
    (λ (last : (s ≡ length xs) × (x ≡ y)). inr (ap suc last.0, last.1)) (at_end xs x y s h)

middle_at : {A : Type 0} (xs : List A) (x : A) (ys : List A) → slice_get (xs ++ x ∷ ys) (length xs) ≡ Some x
middle_at [] x ys = refl
middle_at (z ∷ xs) x ys = middle_at xs x ys

-- the first of those that are left
pub first_left : {A : Type 0} (yielded left rest all : List A) (x : A) → left ≡ x ∷ rest → yielded ++ left ≡ all → yielded ++ x ∷ rest ≡ all
first_left yielded left rest all x first are = ap (λ xs. yielded ++ xs) (sym first) ∙ are

pub as_many_more : {A B : Type 0} (xs now : List A) (ys : List B) (x : A) (y : B) → now ≡ xs ++ x ∷ [] → length xs ≡ length ys → length now ≡ length (ys ++ y ∷ [])
as_many_more xs now ys x y is same =
    let long = ap length is in omega (arith, long, same, length-append xs (x ∷ []), length-append ys (y ∷ []))

-- one pass more has looked
pub each_more : {O P C D R : Type 0} (m : Meaning P C D R) (opening : List P) (entries : List (Entry C)) (all yielded rest passes : List (Known O P C)) (pass after : Known O P C)
    → ((s : ℕ) (p : Known O P C) → slice_get all s ≡ Some p → HasOwn entries s p) → yielded ++ pass ∷ rest ≡ all → length passes ≡ length yielded
    → ((s : ℕ) → HasOwn entries s pass → KnowsOwn m opening entries s after)
    → EachKnowsOwn m opening entries passes → EachKnowsOwn m opening entries (passes ++ after ∷ [])
each_more {O} {P} {C} m opening entries all yielded rest passes pass after own are count knows each s p at =
    ⊎_elim
    (λ (there : slice_get passes s ≡ Some p). each s p there)
    (λ (last : (s ≡ length passes) × (after ≡ p)).
    let here : slice_get all (length yielded) ≡ Some pass = ap (λ l. slice_get l (length yielded)) (sym are) ∙ middle_at yielded pass rest in
    let place : length yielded ≡ s = sym (last.0 ∙ count) in
    let known : KnowsOwn m opening entries s after = knows s (own s pass (subst (λ k. slice_get all k ≡ Some pass) place here)) in
    subst (λ (k : Known O P C). KnowsOwn m opening entries s k) last.1 known)
    (at_end passes after p s at)
