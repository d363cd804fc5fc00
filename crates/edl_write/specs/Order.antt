-- The events of a cut, in order: each segment of a channel that is not dark is one.
use Rattle.std.specs.Prelude.{◌≡◌, ℕ, ◌≤◌, Bool, true, false, ◌||◌, ◌&&◌, not, ◌==◌, List, [], ◌∷◌, Option, Some, None, length, nat_lt, slice_index_or, if◌then◌else◌}
use Rattle.std.specs.List.{filter}
use Rattle.frame_meaning.specs.declared.frames.Side.{Side}
use Rattle.frame_meaning.specs.declared.frames.Side.TheVariants as side
use Rattle.frame_meaning.specs.declared.frames.Frame.{Frame}
use Rattle.composables.specs.declared.media.Table.{Table}
use Rattle.composables.specs.TrackState.{TrackState}
use Rattle.flatten.specs.declared.cutting.Segment.{Segment}
use Rattle.flatten.specs.Channels.{audio_frames, video_frames}
use Rattle.flatten.specs.Segments.{AreSegments}
use Rattle.edl_events.specs.declared.channel.Channel.{Channel}
use Rattle.edl_events.specs.declared.channel.Channel.TheVariants.{V, A, A2}
use Rattle.edl_write.specs.declared.ordering.ChannelSegment.{ChannelSegment}

-- a segment is dark where it has no dissolve and its side is dark; a dissolve between dark sides is not
abbrev pub is_dark_in : Option (Side ℕ) → Side ℕ → Bool
is_dark_in None side.Dark = true
is_dark_in None (side.Pic reel source) = false
is_dark_in (Some left) s = false

abbrev pub is_dark : Segment → Bool
is_dark s = is_dark_in s.from s.side

-- the segments that are events
abbrev pub shown : List Segment → List Segment
shown ss = filter (λ s. not (is_dark s)) ss

-- the picture comes first, then the first channel of sound, then the second
abbrev pub rank : Channel → ℕ
rank V = 0
rank A = 1
rank A2 = 2

abbrev pub same_channel : Channel → Channel → Bool
same_channel c d = rank c == rank d

-- the segments of a channel among these events
abbrev pub on_channel : Channel → List ChannelSegment → List Segment
on_channel c [] = []
on_channel c (e ∷ es) = if same_channel e.channel c then e.segment ∷ on_channel c es else on_channel c es

-- an event comes before another by its record in, and of two at one record in by its channel
abbrev pub comes_before : ChannelSegment → ChannelSegment → Bool
comes_before e f =
    nat_lt e.segment.at f.segment.at || (e.segment.at == f.segment.at && nat_lt (rank e.channel) (rank f.channel))

abbrev pub AreInOrder : List ChannelSegment → Type 0
AreInOrder [] = Unit {0}
AreInOrder (e ∷ []) = Unit {0}
AreInOrder (e ∷ f ∷ es) = (comes_before e f ≡ true) × AreInOrder (f ∷ es)

-- an audio channel, by its number from 0, which has no frames where there is no such track
abbrev pub audio_channel : Table → List TrackState → ℕ → List (Frame ℕ)
audio_channel table tracks n = slice_index_or (audio_frames table tracks) n []

-- the events of a channel are its segments that are not dark, in order
abbrev pub IsOn : Channel → List (Frame ℕ) → List ChannelSegment → Type 0
IsOn c frames es = (ss : List Segment) × AreSegments ss frames × (on_channel c es ≡ shown ss)

-- these are the events of a cut: the video tracks, stacked, are V, the first audio track is A and the second A2
pub record AreEventsOf (table : Table) (tracks : List TrackState) (es : List ChannelSegment) : Type 0 where
  pub few : length (audio_frames table tracks) ≤ 2
  pub picture : IsOn V (video_frames table tracks) es
  pub sound : IsOn A (audio_channel table tracks 0) es
  pub second_sound : IsOn A2 (audio_channel table tracks 1) es
  pub order : AreInOrder es
