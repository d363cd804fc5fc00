-- The first entries of a history: they apply where all do, and are legal where all are.
use Rattle.std.proofs.Common.{◌≡◌, ℕ, zero, suc, ◌≤◌, List, [], ◌∷◌, length, take, drop, Some, None, IsSome, Result, refl, sym, ap, ◌∙◌, arith, subst}
use Rattle.std.specs.List.{fold}
use Rattle.std.proofs.lemmas.List.{take-append-drop}
use Rattle.std.proofs.lemmas.List.Sums.{fold-append}
use Rattle.room_core.specs.declared.entry.Entry.{Entry}
use Rattle.room_core.specs.History.{IsLegal, NumbersRise, RiseAfter, after_entry, replay}
use Rattle.edit_apply.specs.RoomyLaws.{no_state}

front_within : {C : Type 0} (n : ℕ) (es : List (Entry C)) → length (take n es) ≤ length es
front_within zero es = omega arith
front_within (suc n) [] = omega arith
front_within (suc n) (e ∷ es) = omega (arith, front_within n es)

front_rises_after : {C : Type 0} (n : ℕ) (e : Entry C) (es : List (Entry C)) → RiseAfter e es → RiseAfter e (take n es)
front_rises_after zero e es rise = tt
front_rises_after (suc n) e [] rise = tt
front_rises_after (suc n) e (f ∷ fs) rise = (rise.0, front_rises_after n e fs rise.1)

front_rises : {C : Type 0} (n : ℕ) (es : List (Entry C)) → NumbersRise es → NumbersRise (take n es)
front_rises zero es rise = tt
front_rises (suc n) [] rise = tt
front_rises (suc n) (e ∷ es) rise = (front_rises_after n e es rise.0, front_rises n es rise.1)

pub front-applies : {S C D R : Type 0} (apply : S → C → Result (S × D) R) (s : S) (entries : List (Entry C)) (n : ℕ)
    → IsSome (replay apply s entries) → replay apply s (take n entries) ≡ None → ⊥
front-applies apply s entries n applies none =
    let parted = ap (replay apply s) (sym (take-append-drop n entries)) ∙ fold-append (after_entry apply) (Some s) (take n entries) (drop n entries) in
    let nothing = ap (λ o. fold (after_entry apply) o (drop n entries)) none ∙ no_state apply (drop n entries) in
    let no = subst (λ o. IsSome o) (parted ∙ nothing) applies in
    absurd (Prim.grind (arith, no))

pub front-legal : {S C D R : Type 0} (apply : S → C → Result (S × D) R) (s t : S) (entries : List (Entry C)) (n : ℕ)
    → IsLegal apply s entries → replay apply s (take n entries) ≡ Some t → IsLegal apply s (take n entries)
front-legal apply s t entries n legal comes = record {
  within = omega (arith, front_within n entries, legal.within);
  applies = subst (λ o. IsSome o) (sym comes) refl;
  rise = front_rises n entries legal.rise;
}
