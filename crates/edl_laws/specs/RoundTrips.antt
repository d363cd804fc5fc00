-- The round trip of a list: what is written of a cut is read again as events whose tape shows what the cut shows.
use Rattle.std.specs.Prelude.{◌≡◌, ℕ, ◌+◌, ◌<◌, ◌≤◌, List, Ok, length, slice_index_or}
use Rattle.frame_meaning.specs.declared.frames.Frame.{Frame}
use Rattle.frame_meaning.specs.declared.frames.Frame.TheVariants as frame
use Rattle.composables.specs.declared.media.Table.{Table}
use Rattle.composables.specs.TrackState.{TrackState}
use Rattle.flatten.specs.Channels.{video_frames}
use Rattle.timecode12.specs.declared.rate.SequenceRate.{SequenceRate}
use Rattle.reel_names.specs.declared.namer.ReelName.{ReelName}
use Rattle.edl_events.specs.declared.channel.Channel.{Channel}
use Rattle.edl_events.specs.declared.channel.Channel.TheVariants.{V, A, A2}
use Rattle.edl_events.specs.declared.event.Event.{Event}
use Rattle.edl_events.specs.Tape.{tape_at}
use Rattle.edl_write.specs.Order.{audio_channel}
use Rattle.edl_read.specs.declared.list.TheConstants.{MAX_LIST}
use Rattle.edl_read.specs.Reading.{list_read}
use Rattle.edl_laws.specs.Named.{named, taken_back}

-- the frames of a channel of a cut: its video tracks, stacked, are V, its first audio track is A and its second A2
abbrev pub frames_on : Table → List TrackState → Channel → List (Frame ℕ)
frames_on table tracks V = video_frames table tracks
frames_on table tracks A = audio_channel table tracks 0
frames_on table tracks A2 = audio_channel table tracks 1

-- what the cut shows on a channel at a place: dark past the channel's end
abbrev pub cut_at : Table → List TrackState → Channel → ℕ → Frame ℕ
cut_at table tracks c place = slice_index_or (frames_on table tracks c) place frame.Dark

-- The tape of these events shows what the cut shows, where record times begin at `start`: on each channel every frame,
-- each mix with its weight, by the names of the reels; and it is dark before and behind. With the names taken back it
-- is the cut.
pub record PlaysAs (events : List Event) (start : ℕ) (names : List ReelName) (table : Table) (tracks : List TrackState)
    : Type 0 where
  pub shown : (c : Channel) (place : ℕ) → tape_at events c (start + place) ≡ named names (cut_at table tracks c place)
  pub back : (c : Channel) (place : ℕ)
      → taken_back names (tape_at events c (start + place)) ≡ cut_at table tracks c place
  pub before : (c : Channel) (at : ℕ) → at < start → tape_at events c at ≡ frame.Dark

-- The text is short enough to be read, and read at the rate it gives a list whose tape shows what the cut shows.
pub record RoundTrips
    (text : List ℕ) (rate : SequenceRate) (start : ℕ) (names : List ReelName) (table : Table) (tracks : List TrackState)
    : Type 0 where
  pub short : length text ≤ MAX_LIST
  pub read : (events : List Event) × (list_read rate text ≡ Ok events) × PlaysAs events start names table tracks
