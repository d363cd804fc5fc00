-- What lies under the journal's lock stays as it has to be.
use Rattle.std.proofs.Common.{◌≡◌, ℕ, zero, suc, ◌<◌, List, [], ◌∷◌, ◌++◌, length, true≢false, refl, sym, ap, ◌∙◌, subst, ⊎_elim, arith, Option, Some, IsSome, eq-eqb, slice_get, slice_set}
use Rattle.std.proofs.lemmas.List.{length-append}
use Rattle.std.proofs.lemmas.List.Elements.{All-append, All-cons, All-nil}
use Rattle.room_core.specs.declared.entry.Entry.{Entry}
use Rattle.room_core.specs.History.{replay}
use Rattle.room_core.specs.Whole.{Meaning, whole}
use Rattle.room_core.proofs.Histories.{rise-more}
use Rattle.edit_journal.specs.declared.name.Name.{Name}
use Rattle.edit_journal.specs.declared.name.Name.TheVariants.{Part, Station}
use Rattle.edit_journal.specs.declared.view.View.{View}
use Rattle.edit_journal.specs.Seats.{Opening, In, is_same, bearer, both_of, left_of, added}
use Rattle.edit_journal.specs.Turns.{Open, open_of, IsKeptLog, HasNames, Applies, gathered, last_of}
use Rattle.edit_journal.proofs.Moves.{same_name, in_append, without_less}
use Rattle.edit_journal.proofs.Lasts.{above_last, lasts-more}

abbrev number_of : Name → ℕ
number_of (Part n) = n
number_of (Station n) = n

not_part : (s n : ℕ) → Station s ≡ Part n → ⊥
not_part s n e = true≢false (sym (same_name (Station s) (Station s) refl) ∙ ap (λ x. is_same (Station s) x) e)

-- what a turn sees of a gathering
pub at_gather : {O P C : Type 0} (v w : View O P C) (x : Name) (o : Option (Opening O P)) (l : List (Entry C)) → w ≡ bearer o (x ∷ []) l
    → open_of (both_of v w) ≡ gathered x w.opening w.entries (open_of v)
at_gather {O} {P} {C} v w x o l e = subst (λ (w : View O P C). open_of (both_of v w) ≡ gathered x w.opening w.entries (open_of v)) (sym e) refl

pub kept_seat : {O P C D R : Type 0} (meaning : O → Meaning P C D R) (opens : O → List P → Type 0) (stations : ℕ) (lasts : List ℕ) (v w : View O P C) (p : ℕ) (o : Option (Opening O P)) (l : List (Entry C))
    → w ≡ bearer o (Part p ∷ []) l → IsKeptLog meaning opens stations (open_of v) lasts → IsKeptLog meaning opens stations (open_of (both_of v w)) lasts
kept_seat {O} {P} {C} meaning opens stations lasts v w p o l e h =
    subst (λ (w : View O P C). IsKeptLog meaning opens stations (open_of (both_of v w)) lasts) (sym e)
    record {
      journal = h.journal;
      each_last = h.each_last;
      own_stations = λ s i. ⊎_elim (λ (j : In (Station s) v.names). h.own_stations s j)
          (λ (j : In (Station s) (Part p ∷ [])). ⊎_elim (λ (q : Station s ≡ Part p). absurd (not_part s p q)) (λ (no : ⊥). absurd no) j)
          (in_append (Station s) v.names (Part p ∷ []) i);
    }

pub kept_pass : {O P C D R : Type 0} (meaning : O → Meaning P C D R) (opens : O → List P → Type 0) (stations : ℕ) (lasts : List ℕ) (v w : View O P C) (p : ℕ) (o : Option (Opening O P)) (l : List (Entry C))
    → w ≡ bearer o (Station p ∷ []) l → p < stations → IsKeptLog meaning opens stations (open_of v) lasts → IsKeptLog meaning opens stations (open_of (both_of v w)) lasts
kept_pass {O} {P} {C} meaning opens stations lasts v w p o l e lt h =
    subst (λ (w : View O P C). IsKeptLog meaning opens stations (open_of (both_of v w)) lasts) (sym e)
    record {
      journal = h.journal;
      each_last = h.each_last;
      own_stations = λ s i. ⊎_elim (λ (j : In (Station s) v.names). h.own_stations s j)
          (λ (j : In (Station s) (Station p ∷ [])). ⊎_elim (λ (q : Station s ≡ Station p). subst (λ (n : ℕ). n < stations) (sym (ap number_of q)) lt) (λ (no : ⊥). absurd no) j)
          (in_append (Station s) v.names (Station p ∷ []) i);
    }

pub kept_given : {O P C D R : Type 0} (meaning : O → Meaning P C D R) (opens : O → List P → Type 0) (stations : ℕ) (lasts : List ℕ) (v : View O P C) (x : Name)
    → IsKeptLog meaning opens stations (open_of v) lasts → IsKeptLog meaning opens stations (open_of (left_of (Some x) v)) lasts
kept_given meaning opens stations lasts v x h = record { journal = h.journal; each_last = h.each_last; own_stations = λ s i. h.own_stations s (without_less x v.names (Station s) i) }

one_opening : {A : Type 0} (o : Option A) (a b : A) → o ≡ Some a → o ≡ Some b → a ≡ b
one_opening o a b h k = let e : Some a ≡ Some b = sym h ∙ k in Prim.grind (arith, e)

pub has_station : {O P C D R : Type 0} (meaning : O → Meaning P C D R) (v : Open O P C) (e : Entry C) → HasNames meaning v e → In (Station e.station) v.names
has_station meaning v e h = h.2 (Station e.station) (eq-eqb e.station e.station refl)

pub kept_added : {O P C D R : Type 0} (meaning : O → Meaning P C D R) (opens : O → List P → Type 0) (stations : ℕ) (lasts : List ℕ) (v : View O P C) (e : Entry C)
    → IsKeptLog meaning opens stations (open_of v) lasts → HasNames meaning (open_of v) e → Applies meaning (open_of v) e → last_of e.station v.entries < e.number
    → length v.entries < 100000 → IsKeptLog meaning opens stations (open_of (added (Some e) v)) (slice_set lasts e.station e.number)
kept_added {O} {P} {C} meaning opens stations lasts v e h names applies above few =
    let j = h.journal in
    let mine = h.own_stations e.station (has_station meaning (open_of v) e names) in
    let same : applies.0 ≡ j.0 = one_opening v.opening applies.0 j.0 applies.1 j.1 in
    record {
      journal = (
        j.0,
        j.1,
        j.2,
        record {
          within = omega (arith, length-append v.entries (e ∷ []), few);
          applies = subst (λ (o : Opening O P). IsSome (replay (whole (meaning o.0)) o.1 (v.entries ++ e ∷ []))) same applies.2;
          rise = rise-more v.entries e j.3.rise (above_last e.station e.number v.entries above);
        },
        All-append (λ (f : Entry C). f.station < stations) v.entries (e ∷ []) j.4 (All-cons (λ (f : Entry C). f.station < stations) e [] mine (All-nil (λ (f : Entry C). f.station < stations))),
      );
      each_last = lasts-more stations lasts v.entries e mine above h.each_last;
      own_stations = h.own_stations;
    }

pub is_some_of : {A : Type 0} (a b : Option A) (o : A) → a ≡ b → a ≡ Some o → IsSome b
is_some_of {A} a b o e h = subst (λ (c : Option A). IsSome c) (sym h ∙ e) refl

pub inside : {A : Type 0} (xs : List A) (n : ℕ) (x : A) → slice_get xs n ≡ Some x → n < length xs
inside [] n x h = absurd (Prim.grind (arith, h))
inside (y ∷ xs) zero x h = omega arith
inside (y ∷ xs) (suc n) x h = let r = inside xs n x h in omega (arith, r)
