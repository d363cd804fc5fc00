-- The limits of what has a list.
use Rattle.std.specs.Prelude.{ℕ, ◌+◌, ◌<◌, ◌≤◌, ◌^◌, List, [], ◌∷◌, length}
use Rattle.composables.specs.declared.TheConstants.{MAX_FRAMES}
use Rattle.composables.specs.TrackState.{TrackState}
use Rattle.edl_write.specs.declared.ordering.ChannelSegment.{ChannelSegment}
use Rattle.edl_write.specs.ListEvents.{source_of}

-- each track has at most as many frames as a track may have
abbrev pub AreLimited : List TrackState → Type 0
AreLimited [] = Unit {0}
AreLimited (t ∷ ts) = (length t.cells ≤ MAX_FRAMES) × AreLimited ts

-- each event ends within that many frames
abbrev pub AreShort : List ChannelSegment → Type 0
AreShort [] = Unit {0}
AreShort (e ∷ es) = (e.segment.at + e.segment.len ≤ MAX_FRAMES) × AreShort es

-- an event whose numbers can be written, in a list that begins at this frame
pub record CanBeWritten (start : ℕ) (e : ChannelSegment) : Type 0 where
  pub dissolve : e.segment.frames < 1000
  pub source : source_of e.segment.side + e.segment.len < 2 ^ 32
  pub place : start + e.segment.at + e.segment.len < 2 ^ 32

abbrev pub EachCanBeWritten : ℕ → List ChannelSegment → Type 0
EachCanBeWritten start [] = Unit {0}
EachCanBeWritten start (e ∷ es) = CanBeWritten start e × EachCanBeWritten start es
