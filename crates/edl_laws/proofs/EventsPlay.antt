-- The events of a cut play as the cut.
use Rattle.std.proofs.Common.{◌≡◌, ℕ, ◌+◌, List, get_or, ap, ◌∙◌}
use Rattle.frame_meaning.specs.declared.frames.Frame.{Frame}
use Rattle.frame_meaning.specs.declared.frames.Frame.TheVariants as frame
use Rattle.composables.specs.declared.media.Table.{Table}
use Rattle.composables.specs.TrackState.{TrackState}
use Rattle.flatten.specs.declared.cutting.Segment.{Segment}
use Rattle.reel_names.specs.declared.namer.ReelName.{ReelName}
use Rattle.reel_names.specs.Namers.{AreNames}
use Rattle.edl_events.specs.declared.channel.Channel.{Channel}
use Rattle.edl_events.specs.declared.channel.Channel.TheVariants.{V, A, A2}
use Rattle.edl_events.specs.Tape.{tape_at}
use Rattle.edl_write.specs.declared.ordering.ChannelSegment.{ChannelSegment}
use Rattle.edl_write.specs.ListEvents.{events_of}
use Rattle.edl_write.specs.Order.{AreEventsOf, IsOn, on_channel}
use Rattle.edl_laws.specs.Meanings.{EventsPlayAsTheirCut}
use Rattle.edl_laws.specs.Named.{named, taken_back}
use Rattle.edl_laws.specs.RoundTrips.{PlaysAs, cut_at, frames_on}
use Rattle.edl_laws.proofs.ChannelFrames.{channel_is, shown_strip, strip_at}
use Rattle.edl_laws.proofs.NamesGiven.{AreNamed}
use Rattle.edl_laws.proofs.ReelsNamed.{frame_is_back}
use Rattle.edl_laws.proofs.TapeShown.{strip_has, tape_before, tape_shown}
use Rattle.edl_laws.proofs.WrittenLists.{written}

channel_strip : (c : Channel) (frames : List (Frame ℕ)) (es : List ChannelSegment) (q : ℕ) → IsOn c frames es → strip_at (on_channel c es) q ≡ get_or frames q frame.Dark
channel_strip c frames es q lies =
    let cut = lies.1 in
    ap (λ (ss : List Segment). strip_at ss q) lies.2
    ∙ (shown_strip 0 lies.0 q cut.placed
    ∙ (channel_is lies.0 q cut.placed cut.each ∙ ap (λ (fs : List (Frame ℕ)). get_or fs q frame.Dark) cut.are))

pub on_each : (table : Table) (tracks : List TrackState) (es : List ChannelSegment) (c : Channel) → AreEventsOf table tracks es → IsOn c (frames_on table tracks c) es
on_each table tracks es V are = are.picture
on_each table tracks es A are = are.sound
on_each table tracks es A2 are = are.second_sound

plays : (table : Table) (tracks : List TrackState) (start : ℕ) (es : List ChannelSegment) (names : List ReelName) → AreEventsOf table tracks es → AreNames names → AreNamed names es
    → PlaysAs (events_of start names es) start names table tracks
plays table tracks start es names are unique each = record {
  shown = λ c place. shows c place;
  back = λ c place. ap (taken_back names) (tape_shown start names 2 es c place unique each) ∙ (frame_is_back names (strip_at (on_channel c es) place) unique (strip_has names es c place each) ∙ strip c place);
  before = λ c at h. tape_before start names 2 es c at h;
}
  where
    strip : (c : Channel) (place : ℕ) → strip_at (on_channel c es) place ≡ cut_at table tracks c place
    strip c place = channel_strip c (frames_on table tracks c) es place (on_each table tracks es c are)

    shows : (c : Channel) (place : ℕ) → tape_at (events_of start names es) c (start + place) ≡ named names (cut_at table tracks c place)
    shows c place = tape_shown start names 2 es c place unique each ∙ ap (named names) (strip c place)

pub events_play_as_their_cut : EventsPlayAsTheirCut
events_play_as_their_cut table tracks counting start rule given es list are is unique = plays table tracks start es list.names are unique (written counting start rule given table.reels es list is).named
