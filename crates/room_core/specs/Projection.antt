-- The part of a history that speaks of one part of an object, or of one station.
use Rattle.std.specs.Prelude.{ℕ, List, ◌==◌}
use Rattle.std.specs.List.{filter, list_any}
use Rattle.room_core.specs.declared.entry.Entry.{Entry}

-- the entries that name this part
abbrev pub of_part : {C : Type 0} → (C → List ℕ) → ℕ → List (Entry C) → List (Entry C)
of_part names part entries = filter (λ e. list_any (λ n. n == part) (names e.call)) entries

-- the entries of this station
abbrev pub of_station : {C : Type 0} → ℕ → List (Entry C) → List (Entry C)
of_station station entries = filter (λ e. e.station == station) entries
