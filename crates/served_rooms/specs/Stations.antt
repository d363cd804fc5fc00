-- The stations that a history is of.
use Rattle.std.specs.Prelude.{ℕ, ◌<◌, List, [], ◌∷◌}
use Rattle.room_core.specs.declared.entry.Entry.{Entry}

-- each entry is of a station below this count
abbrev pub AreOfStations : {C : Type 0} → ℕ → List (Entry C) → Type 0
AreOfStations stations [] = Unit {0}
AreOfStations stations (e ∷ es) = (e.station < stations) × AreOfStations stations es
