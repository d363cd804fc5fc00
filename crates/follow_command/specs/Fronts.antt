-- Entries of a stream that stand in a history, each at its place.
use Rattle.std.specs.Prelude.{◌≡◌, ℕ, List, ◌++◌, Some, All, slice_get}
use Rattle.cut_steps.specs.CutSteps.{CutStep}
use Rattle.room_core.specs.declared.entry.Entry.{Entry}
use Rattle.follow_command.specs.NewsLines.{Item}

-- each of these entries stands at its place in the history
abbrev pub AreOf : List (Entry CutStep) → List Item → Type 0
AreOf h items = All (λ (item : Item). slice_get h item.0 ≡ Some item.1) items

-- the history begins with these entries
abbrev pub IsFront : {C : Type 0} → List (Entry C) → List (Entry C) → Type 0
IsFront entries h = (rest : List (Entry _)) × (h ≡ entries ++ rest)
