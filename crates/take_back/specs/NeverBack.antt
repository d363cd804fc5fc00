-- A history in which nothing was taken back: all of its calls are left.
use Rattle.std.proofs.Common.{append_assoc, ◌≡◌, ℕ, List, [], ◌∷◌, ◌++◌, fold, map, reverse, refl, sym, ap, ◌∙◌}
use Rattle.std.proofs.lemmas.Grind.{reverse_onto}
use Rattle.std.proofs.lemmas.List.{append-nil}
use Rattle.room_core.specs.declared.entry.Entry.{Entry}
use Rattle.take_back.specs.Left.{after_deed, entered, left}
use Rattle.take_back.specs.declared.step.Deed.{Deed}
use Rattle.take_back.specs.declared.step.Deed.TheVariants.{Do}
use Rattle.take_back.specs.declared.step.Step.{Step}

-- an entry whose call its station asked to be done
abbrev pub done_entry : {C : Type 0} → Entry C → Entry (Step C)
done_entry e = record { station = e.station; number = e.number; call = record { by = e.station; act = Do e.call } }

abbrev pub done_entries : {C : Type 0} → List (Entry C) → List (Entry (Step C))
done_entries es = map done_entry es

all_do : {C : Type 0} (names : C → List ℕ) (es acc : List (Entry C))
    → reverse (fold (after_deed (λ (e : Entry _). names e.call)) acc
    (map (λ (e : Entry (Step _)). entered e.station e.number e.call.act) (done_entries es))) ≡ reverse acc ++ es
all_do names [] acc = sym (append-nil (reverse acc))
all_do names (e ∷ es) acc = all_do names es (e ∷ acc)
    ∙ (ap (λ xs. xs ++ es) (reverse_onto acc e []) ∙ append_assoc (reverse acc) (e ∷ []) es)

-- what is left of it is all of it
pub all_is_left : {C : Type 0} (names : C → List ℕ) (es : List (Entry C)) → left names (done_entries es) ≡ es
all_is_left names es = all_do names es []
