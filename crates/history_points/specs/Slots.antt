-- Places of parts, of which some may be empty while a call changes what stood there.
use Rattle.std.specs.Prelude.{◌≡◌, ℕ, List, [], ◌∷◌, Option, Some, None, map, slice_set}
use Rattle.room_core.specs.Whole.{with_picked}

-- the parts that stand in these places
abbrev pub present : {P : Type 0} → List (Option P) → List P
present [] = []
present (slot ∷ slots) = with_picked slot (present slots)

-- each place has its part
abbrev pub IsWhole : {P : Type 0} → List (Option P) → Type 0
IsWhole slots = map Some (present slots) ≡ slots

-- the places with those of these numbers empty
abbrev pub emptied : {P : Type 0} → List (Option P) → List ℕ → List (Option P)
emptied slots [] = slots
emptied slots (n ∷ ns) = emptied (slice_set slots n None) ns
