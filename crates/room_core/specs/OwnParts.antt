-- Stations of which each keeps to one part, the one that has its number.
use Rattle.std.specs.Prelude.{◌≡◌, ℕ, zero, suc, ◌<◌, List, [], ◌∷◌, ◌++◌, map}
use Rattle.room_core.specs.declared.entry.Entry.{Entry}
use Rattle.room_core.specs.Projection.{of_station}

-- each entry is of one of the first so many stations
abbrev pub AreOfFirst : {C : Type 0} → ℕ → List (Entry C) → Type 0
AreOfFirst stations [] = Unit {0}
AreOfFirst stations (e ∷ es) = (e.station < stations) × AreOfFirst stations es

-- each entry names one part alone, that of its station
abbrev pub KeepToOwn : {C : Type 0} → (C → List ℕ) → List (Entry C) → Type 0
KeepToOwn names [] = Unit {0}
KeepToOwn names (e ∷ es) = (names e.call ≡ e.station ∷ []) × KeepToOwn names es

-- the entries of the first so many stations, station by station
abbrev pub by_station : {C : Type 0} → ℕ → List (Entry C) → List (Entry C)
by_station zero entries = []
by_station (suc station) entries = by_station station entries ++ of_station station entries

-- the calls of entries
abbrev pub calls_of : {C : Type 0} → List (Entry C) → List C
calls_of entries = map (λ e. e.call) entries
