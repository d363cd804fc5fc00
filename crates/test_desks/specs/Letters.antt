-- Entries of tests as lines of two letters: one for the station and one for the number.
use Rattle.std.specs.Prelude.{ℕ, ◌+◌, ◌%◌, List, [], ◌∷◌}
use Rattle.room_core.specs.declared.entry.Entry.{Entry}

abbrev pub letters_of : {C : Type 0} → Entry C → List ℕ
letters_of e = (65 + e.station % 16) ∷ (97 + e.number % 16) ∷ []
