-- One entry more at the end of a history.
use Rattle.std.proofs.Common.{◌≡◌, ℕ, ◌<◌, List, [], ◌∷◌, ◌++◌, Bool, true, false, not, ◌&&◌, ◌||◌, ◌==◌, nat_lt, Some, Result, refl, arith}
use Rattle.std.proofs.lemmas.List.Sums.{fold-append}
use Rattle.std.proofs.lemmas.Bool.Decides.{nat_tests}
use Rattle.room_core.specs.History.{after_entry, replay, RiseAfter, NumbersRise}
use Rattle.room_core.specs.Machine.{is_above}
use Rattle.room_core.specs.declared.entry.Entry.{Entry}

pub both_true : (a b : Bool) → (a && b) ≡ true → (a ≡ true) × (b ≡ true)
both_true true true h = (refl, refl)
both_true true false h = (refl, h)
both_true false b h = (h, Prim.grind (arith, h))

pub replay-more : {S C D R : Type 0} (apply : S → C → Result (S × D) R) (s : S) (entries : List (Entry C)) (e : Entry C)
    → replay apply s (entries ++ e ∷ []) ≡ after_entry apply (replay apply s entries) e
replay-more apply s entries e = fold-append (after_entry apply) (Some s) entries (e ∷ [])

rise_after-more : {C : Type 0} (f : Entry C) (entries : List (Entry C)) (e : Entry C)
    → RiseAfter f entries → (e.station ≡ f.station → f.number < e.number) → RiseAfter f (entries ++ e ∷ [])
rise_after-more f [] e h k = (k, tt)
rise_after-more f (g ∷ gs) e h k = (h.0, rise_after-more f gs e h.1 k)

above-first : (a b m n : ℕ) → (not (a == b) || nat_lt m n) ≡ true → b ≡ a → m < n
above-first a b m n h e = Prim.grind (arith, nat_tests, h, e)

pub rise-more : {C : Type 0} (entries : List (Entry C)) (e : Entry C)
    → NumbersRise entries → is_above e.station e.number entries ≡ true → NumbersRise (entries ++ e ∷ [])
rise-more [] e h k = (tt, tt)
rise-more (f ∷ fs) e h k =
    let both = both_true (not (f.station == e.station) || nat_lt f.number e.number) (is_above e.station e.number fs) k in
    (rise_after-more f fs e h.0 (above-first f.station e.station f.number e.number both.0), rise-more fs e h.1 both.1)
