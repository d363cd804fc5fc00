-- A stream of entries, each with its place in a history, followed from a list of entries on.
use Rattle.std.specs.Prelude.{◌≡◌, ◌⊎◌, ℕ, List, [], ◌∷◌, ◌++◌, Some, length, slice_get}
use Rattle.room_core.specs.declared.entry.Entry.{Entry}

-- An entry at a place below the end of the list stands there already, and one at the end is put there. From an entry at
-- another place the list does not go on.
abbrev pub GoesOn : {C : Type 0} → List (Entry C) → ℕ → Entry C → List (Entry C) → Type 0
GoesOn before place e after =
    ((slice_get before place ≡ Some e) × (after ≡ before)) ⊎ ((place ≡ length before) × (after ≡ before ++ e ∷ []))

-- what a list comes to by a stream, one entry after another
abbrev pub Follows : {C : Type 0} → List (Entry C) → List (ℕ × Entry C) → List (Entry C) → Type 0
Follows before [] after = after ≡ before
Follows before (item ∷ items) after =
    (next : List (Entry _)) × GoesOn before item.0 item.1 next × Follows next items after
