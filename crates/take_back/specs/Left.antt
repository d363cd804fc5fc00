-- What is left of a history when some of its calls were taken back.
use Rattle.std.specs.Prelude.{◌≡◌, ◌==◌, ℕ, List, [], ◌∷◌, Result, Ok, Bool, fold, map, reverse, if◌then◌else◌}
use Rattle.std.specs.List.{list_any}
use Rattle.part_sets.specs.Members.{members}
use Rattle.room_core.specs.declared.entry.Entry.{Entry}
use Rattle.take_back.specs.declared.answers.BackDone.{BackDone}
use Rattle.take_back.specs.declared.answers.BackDone.TheVariants.{Own}
use Rattle.take_back.specs.declared.step.Deed.{Deed}
use Rattle.take_back.specs.declared.step.Deed.TheVariants.{Do, Back}
use Rattle.take_back.specs.declared.step.Step.{Step}

-- the number is one of these
abbrev pub is_among : List ℕ → ℕ → Bool
is_among numbers n = list_any (λ m. m == n) numbers

-- one of these numbers is one of those
abbrev pub meet : List ℕ → List ℕ → Bool
meet numbers others = list_any (is_among others) numbers

-- of these, the newest first, without the first that names one of these parts
abbrev pub without_newest : {E : Type 0} → (E → List ℕ) → List ℕ → List E → List E
without_newest names parts [] = []
without_newest names parts (e ∷ es) = if meet parts (names e) then es else e ∷ without_newest names parts es

-- what is done is put first; a taking back takes out the newest that names one of its parts
abbrev pub after_deed : {E : Type 0} → (E → List ℕ) → List E → Deed E → List E
after_deed names es (Do e) = e ∷ es
after_deed names es (Back tracks) = without_newest names (members tracks) es

-- what is left of these deeds, the newest first
abbrev pub left_of : {E : Type 0} → (E → List ℕ) → List (Deed E) → List E
left_of names deeds = fold (after_deed names) [] deeds

-- a step that was entered, with its call entered in its place
abbrev pub entered : {C : Type 0} → ℕ → ℕ → Deed C → Deed (Entry C)
entered station number (Do c) = Do (record { station = station; number = number; call = c })
entered station number (Back tracks) = Back tracks

-- the entries that are left of a history, in their order
abbrev pub left : {C : Type 0} → (C → List ℕ) → List (Entry (Step C)) → List (Entry C)
left names entries =
    reverse (left_of (λ (e : Entry _). names e.call)
    (map (λ (e : Entry (Step _)). entered e.station e.number e.call.act) entries))

-- entries, each with the answer that it has, lead from a state to another
abbrev pub Leads : {S C D R : Type 0} → (S → C → Result (S × D) R) → S → List (Entry C × D) → S → Type 0
Leads apply s [] t = s ≡ t
Leads apply s (a ∷ more) t = (u : _) × (apply s a.0.call ≡ Ok (u, a.1)) × Leads apply u more t

abbrev pub deed_with : {E A : Type 0} → A → Deed E → Deed (E × A)
deed_with a (Do e) = Do (e, a)
deed_with a (Back tracks) = Back tracks

-- the entries that are left of a history, each with the answer that it had there
abbrev pub left_told : {C A : Type 0} → (C → List ℕ) → List (Entry (Step C) × A) → List (Entry C × A)
left_told names entries =
    reverse (left_of (λ (t : Entry _ × _). names t.0.call)
    (map (λ (t : Entry (Step _) × _). deed_with t.1 (entered t.0.station t.0.number t.0.call.act)) entries))

-- an answer of the object itself, as a step's
abbrev pub as_own : {C D : Type 0} → Entry C × D → Entry C × BackDone D
as_own t = (t.0, Own t.1)
