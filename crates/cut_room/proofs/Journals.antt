-- Fronts of a journal.
use Rattle.std.proofs.Common.{◌≡◌, ℕ, List, [], ◌∷◌, Some, None, Result, take, drop, refl, sym, ap, ◌∙◌, arith}
use Rattle.std.specs.List.{fold}
use Rattle.std.proofs.lemmas.List.{take-append-drop}
use Rattle.std.proofs.lemmas.List.Sums.{fold-append}
use Rattle.room_core.specs.History.{after_entry, replay}
use Rattle.room_core.specs.declared.entry.Entry.{Entry}

no_state : {S C D R : Type 0} (apply : S → C → Result (S × D) R) (entries : List (Entry C)) → fold (after_entry apply) None entries ≡ None
no_state apply [] = refl
no_state apply (e ∷ es) = no_state apply es

-- every front of entries that apply applies
pub front_applies : {S C D R : Type 0} (apply : S → C → Result (S × D) R) (s t : S) (entries : List (Entry C)) (k : ℕ)
    → replay apply s entries ≡ Some t → replay apply s (take k entries) ≡ None → ⊥
front_applies apply s t entries k comes none =
    let whole_list = ap (replay apply s) (sym (take-append-drop k entries)) in
    let parted = fold-append (after_entry apply) (Some s) (take k entries) (drop k entries) in
    let nothing = ap (λ o. fold (after_entry apply) o (drop k entries)) none ∙ no_state apply (drop k entries) in
    let both = sym comes ∙ (whole_list ∙ (parted ∙ nothing)) in
    absurd (Prim.grind (arith, both))
