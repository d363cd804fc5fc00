-- A walk that has gone on by one entry.
use Rattle.std.proofs.Common.{◌≡◌, ℕ, zero, suc, ◌+◌, ◌<◌, ◌≤◌, List, [], ◌∷◌, ◌++◌, Option, Some, None, Result, Ok, Err}
use Rattle.std.proofs.Common.{IsSome, length, take, slice_get, slice_index_or, refl, sym, ap, ◌∙◌, subst, arith}
use Rattle.std.proofs.lemmas.List.{length-take-le}
use Rattle.room_core.specs.History.{RiseAfter, NumbersRise, IsLegal, after_entry, replay, most_entries}
use Rattle.room_core.specs.Whole.{Meaning, whole}
use Rattle.room_core.specs.declared.entry.Entry.{Entry}
use Rattle.room_core.proofs.Histories.{replay-more}
use Rattle.cut_mirror.specs.Walks.{IsUnfit, IsWalk, Walked}
use Rattle.cut_mirror.proofs.Named.{get-index}

rise_after-take : {C : Type 0} (f : Entry C) (es : List (Entry C)) (n : ℕ) → RiseAfter f es → RiseAfter f (take n es)
rise_after-take f [] zero h = tt
rise_after-take f [] (suc n) h = tt
rise_after-take f (e ∷ es) zero h = tt
rise_after-take f (e ∷ es) (suc n) h = (h.0, rise_after-take f es n h.1)

pub rise-take : {C : Type 0} (es : List (Entry C)) (n : ℕ) → NumbersRise es → NumbersRise (take n es)
rise-take [] zero h = tt
rise-take [] (suc n) h = tt
rise-take (e ∷ es) zero h = tt
rise-take (e ∷ es) (suc n) h = (rise_after-take e es n h.0, rise-take es n h.1)

take-one : {A : Type 0} (xs : List A) (n : ℕ) (x : A) → slice_get xs n ≡ Some x → take (suc n) xs ≡ take n xs ++ x ∷ []
take-one [] n x at = absurd (Prim.grind (arith, at))
take-one (y ∷ ys) zero x at = ap (λ z. z ∷ []) (same y x at) where
  same : {A : Type 0} (y x : A) → Some y ≡ Some x → y ≡ x
  same y x h = Prim.grind (arith, h)
take-one (y ∷ ys) (suc n) x at = ap (λ zs. y ∷ zs) (take-one ys n x at)

is_some : {A : Type 0} (o : Option A) (a : A) → o ≡ Some a → IsSome o
is_some o a h = rw h refl

-- an object's entries before a point, done on its opening, and what they come to
module _ {O P C D R : Type 0} (meaning : O → Meaning P C D R) (opens : O → List P → Type 0) (w : Walked O P C) (is : IsWalk meaning opens w) where
  one_on : (e : Entry C) → slice_get w.entries w.point ≡ Some e
      → replay (whole (meaning w.object)) w.opening (take (w.point + 1) w.entries) ≡ after_entry (whole (meaning w.object)) (Some w.parts) e
  one_on e at =
      let next : w.point + 1 ≡ suc w.point = omega arith in
      ap (λ (n : ℕ). replay (whole (meaning w.object)) w.opening (take n w.entries)) next
      ∙ (ap (replay (whole (meaning w.object)) w.opening) (take-one w.entries w.point e at)
      ∙ (replay-more (whole (meaning w.object)) w.opening (take w.point w.entries) e
      ∙ ap (λ s. after_entry (whole (meaning w.object)) s e) is.comes))

  pub walked_on : (e : Entry C) (now : List P) → w.point < length w.entries → slice_get w.entries w.point ≡ Some e
      → after_entry (whole (meaning w.object)) (Some w.parts) e ≡ Some now
      → IsWalk meaning opens (record { object = w.object; opening = w.opening; entries = w.entries; point = w.point + 1; parts = now })
  walked_on e now there at does = record {
    opens_so = is.opens_so;
    few = is.few;
    rise = is.rise;
    within = omega (arith, there);
    legal = record {
      within = omega (arith, length-take-le (w.point + 1) w.entries (omega (arith, there)), there, is.few);
      applies = is_some _ now (one_on e at ∙ does);
      rise = rise-take w.entries (w.point + 1) is.rise;
    };
    comes = one_on e at ∙ does;
  }

  pub unfit_there : (e : Entry C) → w.point < length w.entries → slice_get w.entries w.point ≡ Some e
      → after_entry (whole (meaning w.object)) (Some w.parts) e ≡ None
      → IsUnfit (meaning w.object) w.opening w.entries w.point
  unfit_there e there at fails = record {
    within = there;
    before = is_some _ w.parts is.comes;
    refused = one_on e at ∙ fails;
  }

-- a walk that has not begun
pub at_beginning : {O P C D R : Type 0} (meaning : O → Meaning P C D R) (opens : O → List P → Type 0) (o : O) (opening : List P) (entries : List (Entry C))
    → opens o opening → length entries ≤ most_entries → NumbersRise entries
    → IsWalk meaning opens (record { object = o; opening = opening; entries = entries; point = 0; parts = opening })
at_beginning meaning opens o opening entries can few rise = record {
  opens_so = can;
  few = few;
  rise = rise;
  within = omega arith;
  legal = record { within = omega arith; applies = refl; rise = tt };
  comes = refl;
}

-- and one that has, by the entry at its point
pub one_more : {O P C D R : Type 0} (meaning : O → Meaning P C D R) (opens : O → List P → Type 0) (o : O) (opening parts now : List P) (entries : List (Entry C)) (point : ℕ) (d : Entry C)
    → IsWalk meaning opens (record { object = o; opening = opening; entries = entries; point = point; parts = parts })
    → point < length entries → after_entry (whole (meaning o)) (Some parts) (slice_index_or entries point d) ≡ Some now
    → IsWalk meaning opens (record { object = o; opening = opening; entries = entries; point = point + 1; parts = now })
one_more meaning opens o opening parts now entries point d is there does =
    walked_on meaning opens (record { object = o; opening = opening; entries = entries; point = point; parts = parts }) is
    (slice_index_or entries point d) now there (get-index entries point d there) does
