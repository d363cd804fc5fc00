-- What a reply tells its station, and replies that are explained one after another.
use Rattle.std.specs.Prelude.{◌≡◌, ℕ, zero, suc, ◌+◌, List, [], ◌∷◌, ◌++◌, Option, Some, None, max, nat_le, slice_get, if◌then◌else◌}
use Rattle.recorded_sessions.specs.declared.telling.Told.{Told}
use Rattle.recorded_sessions.specs.declared.telling.Told.TheVariants.{Nothing, Own, Point, Least, Same}

-- how many entries a station has been told of after a reply that tells this, where it had been told of so many; none where
-- no such reply can be
abbrev pub told_after : Told → ℕ → Option ℕ
told_after Nothing told = None
told_after (Own n) told = if nat_le told n then Some (n + 1) else None
told_after (Point n) told = if nat_le told n then Some n else None
told_after (Least n) told = Some (max told n)
told_after Same told = Some told

-- the point of the line's own entry, where it tells of one
abbrev pub own_points : Told → List ℕ
own_points Nothing = []
own_points (Own n) = n ∷ []
own_points (Point n) = []
own_points (Least n) = []
own_points Same = []

-- how a reply is explained: where its station had been told of so many entries, it has been told of so many after it, and
-- these points are those of its own entries
abbrev pub Explained : Type 1
Explained = ℕ → ℕ → List ℕ → Type 0

-- the same, of the reply to the line of each number
abbrev pub Explaining : Type 1
Explaining = ℕ → Explained

-- what is known of a reply is right, and is all that there is to it
pub record IsKnown (Explains : Explained) (t : Told) : Type 0 where
  pub right : (told after : ℕ) → told_after t told ≡ Some after → Explains told after (own_points t)
  pub only : (told after : ℕ) (points : List ℕ) → Explains told after points → (told_after t told ≡ Some after) × (points ≡ own_points t)

-- of the replies to the lines from line 1 on
abbrev pub AreKnown : Explaining → List Told → Type 0
AreKnown explains tells = (index : ℕ) (t : Told) → slice_get tells index ≡ Some t → IsKnown (explains (index + 1)) t

-- So many replies, to the lines from a number on, are explained one after another: the station had been told of so many
-- entries and has been told of so many in the end, and these points are those of its own entries.
abbrev pub Goes : Explaining → ℕ → ℕ → ℕ → ℕ → List ℕ → Type 0
Goes explains number zero told last points = (last ≡ told) × (points ≡ [])
Goes explains number (suc count) told last points =
    (after : ℕ) × (here : List ℕ) × (rest : List ℕ) × explains number told after here
    × Goes explains (number + 1) count after last rest × (points ≡ here ++ rest)
