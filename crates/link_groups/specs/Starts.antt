-- Where a walk begins that wants what ends past a place.
use Rattle.std.specs.Prelude.{◌≡◌, ℕ, ◌+◌, ◌<◌, ◌≤◌, length, take}
use Rattle.composables.specs.Items.{items_of}
use Rattle.composables.specs.Joined.{frames_in}
use Rattle.composables.specs.TrackState.{TrackState}
use Rattle.link_groups.specs.declared.starts.Start.{Start}

-- the items and gaps before it end at the place y or before it
pub record IsStart (y : ℕ) (t : TrackState) (s : Start) : Type 0 where
  pub within : s.index ≤ length (items_of t.cells)
  pub from : s.from ≡ frames_in (take s.index (items_of t.cells))
  pub before : s.from ≤ y

-- where the track has the place y, the next item or gap holds it
abbrev pub IsNear : ℕ → TrackState → Start → Type 0
IsNear y t s = y < length t.cells → y < frames_in (take (s.index + 1) (items_of t.cells))
