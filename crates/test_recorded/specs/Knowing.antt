-- Replies that are explained by what is known of them.
use Rattle.std.specs.Prelude.{◌≡◌, ◌-◌, ℕ, List, Some, IsSomeAnd, slice_get}
use Rattle.room_core.specs.declared.entry.Entry.{Entry}
use Rattle.recorded_sessions.specs.Sessions.{IsAt}
use Rattle.recorded_sessions.specs.Telling.{own_points, told_after}
use Rattle.recorded_sessions.specs.declared.telling.Told.{Told}
use Rattle.recorded_sessions.specs.declared.telling.Told.TheVariants.{Own}

-- by the place of its line among these
abbrev pub IsExplained : List Told → ℕ → ℕ → ℕ → List ℕ → Type 0
IsExplained tells number told after points =
    IsSomeAnd (slice_get tells (number - 1)) (λ t. (told_after t told ≡ Some after) × (points ≡ own_points t))

-- where it tells of the line's own entry, that is the station's
abbrev pub IsOwn : {C : Type 0} → List (Entry C) → ℕ → Told → Type 0
IsOwn entries station tell = (point : ℕ) → tell ≡ Own point → IsAt entries station point
