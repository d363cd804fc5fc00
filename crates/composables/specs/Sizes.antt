-- The size of a track, by which the steps of its calls are bounded.
use Rattle.std.specs.Prelude.{ℕ, ◌+◌, ◌/◌, List, length, sum_by}
use Rattle.composables.specs.Items.{items_of}
use Rattle.composables.specs.TrackState.{TrackState}

-- its items and gaps, and 64
abbrev pub size_of : TrackState → ℕ
size_of t = length (items_of t.cells) + 64

-- a look for a place passes pages, of which two neighbours hold more than 64 items and gaps, and then those of one page
abbrev pub look_of : TrackState → ℕ
look_of t = length (items_of t.cells) / 32 + 65

-- the size of these tracks together
abbrev pub sizes_of : List TrackState → ℕ
sizes_of tracks = sum_by size_of tracks
