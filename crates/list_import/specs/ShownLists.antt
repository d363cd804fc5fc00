-- What an import shows: on each channel, what the tape of the list shows, by the names of the reels.
use Rattle.std.specs.Prelude.{◌≡◌, ℕ, ◌+◌, ◌<◌, List, [], length, slice_index_or}
use Rattle.frame_meaning.specs.declared.frames.Side.{Side}
use Rattle.frame_meaning.specs.declared.frames.Side.TheVariants as side
use Rattle.frame_meaning.specs.declared.frames.Frame.{Frame}
use Rattle.frame_meaning.specs.declared.frames.Frame.TheVariants as frame
use Rattle.composables.specs.declared.media.Table.{Table}
use Rattle.composables.specs.TrackState.{TrackState}
use Rattle.flatten.specs.Channels.{audio_frames, video_frames}
use Rattle.edl_events.specs.declared.channel.Channel.{Channel}
use Rattle.edl_events.specs.declared.channel.Channel.TheVariants.{V, A, A2}
use Rattle.edl_events.specs.declared.event.Event.{Event}
use Rattle.edl_events.specs.Tape.{tape_at}
use Rattle.otio_json.specs.declared.opening.Opening.{Opening}

-- ---- frames by the names of their reels

abbrev pub name_of : Table → ℕ → List ℕ
name_of table reel = slice_index_or table.reels reel []

abbrev pub side_named : Table → Side ℕ → Side (List ℕ)
side_named table side.Dark = side.Dark
side_named table (side.Pic reel source) = side.Pic (name_of table reel) source

abbrev pub frame_named : Table → Frame ℕ → Frame (List ℕ)
frame_named table frame.Dark = frame.Dark
frame_named table (frame.Pic reel source) = frame.Pic (name_of table reel) source
frame_named table (frame.Mix left right num den) = frame.Mix (side_named table left) (side_named table right) num den

-- ---- channels

-- the frames of a channel: the video tracks, stacked, are V, the first audio track is A and the second A2
abbrev pub channel_frames : Table → List TrackState → Channel → List (Frame ℕ)
channel_frames table tracks V = video_frames table tracks
channel_frames table tracks A = slice_index_or (audio_frames table tracks) 0 []
channel_frames table tracks A2 = slice_index_or (audio_frames table tracks) 1 []

-- what a channel shows at a place: dark past its end
abbrev pub opening_at : Opening → Channel → ℕ → Frame (List ℕ)
opening_at o c place = frame_named o.table (slice_index_or (channel_frames o.table o.tracks c) place frame.Dark)

-- The opening shows what the tape shows, where record times begin at the start: on each channel every frame, each mix with
-- its weight. Before the start the tape is dark, and the opening has no other channel.
pub record ShowsTheTape (events : List Event) (o : Opening) : Type 0 where
  pub shown : (c : Channel) (place : ℕ) → opening_at o c place ≡ tape_at events c (o.start + place)
  pub before : (c : Channel) (at : ℕ) → at < o.start → tape_at events c at ≡ frame.Dark
  pub channels : length (audio_frames o.table o.tracks) ≡ 2
