-- The numbers that entries bear do not matter for what they come to: with other numbers any list of entries that apply
-- is a legal history.
use Rattle.std.proofs.Common.{◌≡◌, ℕ, suc, ◌<◌, ◌≤◌, List, [], ◌∷◌, ◌++◌, length, Option, Some, None, Result, IsSome, refl, ap, ◌∙◌, arith}
use Rattle.std.specs.List.{fold}
use Rattle.std.proofs.lemmas.List.Sums.{fold-append}
use Rattle.room_core.specs.History.{after_entry, replay, state_in, RiseAfter, NumbersRise, most_entries, IsLegal}
use Rattle.room_core.specs.declared.entry.Entry.{Entry}

abbrev renumbered : {C : Type 0} → ℕ → List (Entry C) → List (Entry C)
renumbered number [] = []
renumbered number (e ∷ es) = record { station = 0; number = number; call = e.call } ∷ renumbered (suc number) es

length-renumbered : {C : Type 0} (number : ℕ) (es : List (Entry C)) → length (renumbered number es) ≡ length es
length-renumbered number [] = refl
length-renumbered number (e ∷ es) = ap suc (length-renumbered (suc number) es)

after-renumbered : {S C D R : Type 0} (apply : S → C → Result (S × D) R) (s : Option S) (number : ℕ) (es : List (Entry C))
    → fold (after_entry apply) s (renumbered number es) ≡ fold (after_entry apply) s es
after-renumbered apply s number [] = refl
after-renumbered apply None number (e ∷ es) = after-renumbered apply None (suc number) es
after-renumbered apply (Some s) number (e ∷ es) = after-renumbered apply (state_in (apply s e.call)) (suc number) es

rise_after-renumbered : {C : Type 0} (e : Entry C) (number : ℕ) (es : List (Entry C)) → e.number < number → RiseAfter e (renumbered number es)
rise_after-renumbered e number [] h = tt
rise_after-renumbered e number (f ∷ fs) h = (λ same. h, rise_after-renumbered e (suc number) fs (omega (arith, h)))

rise-renumbered : {C : Type 0} (number : ℕ) (es : List (Entry C)) → NumbersRise (renumbered number es)
rise-renumbered number [] = tt
rise-renumbered number (e ∷ es) =
    (rise_after-renumbered (record { station = 0; number = number; call = e.call }) (suc number) es (omega arith), rise-renumbered (suc number) es)

is_some : {A : Type 0} (o : Option A) (a : A) → o ≡ Some a → IsSome o
is_some o a h = rw h refl

-- a history goes on from what its front comes to
pub comes_further : {S C D R : Type 0} (apply : S → C → Result (S × D) R) (s t u : S) (es fs : List (Entry C))
    → replay apply s es ≡ Some t → replay apply t fs ≡ Some u → replay apply s (es ++ fs) ≡ Some u
comes_further apply s t u es fs first then_so =
    fold-append (after_entry apply) (Some s) es fs ∙ (ap (λ r. fold (after_entry apply) r fs) first ∙ then_so)

-- what holds of all that legal histories come to holds of all that any entries come to
pub comes_to : {S C D R : Type 0} (apply : S → C → Result (S × D) R) (s t : S) (Holds : S → Type 0) (es : List (Entry C))
    → ((entries : List (Entry C)) → IsLegal apply s entries → replay apply s entries ≡ Some t → Holds t)
    → length es ≤ most_entries → replay apply s es ≡ Some t → Holds t
comes_to apply s t Holds es law few comes =
    let same = after-renumbered apply (Some s) 0 es ∙ comes in
    law (renumbered 0 es) (record { within = omega (arith, length-renumbered 0 es, few); applies = is_some _ t same; rise = rise-renumbered 0 es }) same
