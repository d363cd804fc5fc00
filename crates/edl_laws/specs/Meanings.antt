-- What is true of every list that is written.
use Rattle.std.specs.Prelude.{◌≡◌, ℕ, List, Ok, IsTrue, IsSome}
use Rattle.frame_meaning.specs.declared.frames.Side.{Side}
use Rattle.frame_meaning.specs.declared.frames.Side.TheVariants as side
use Rattle.frame_meaning.specs.declared.frames.Frame.{Frame}
use Rattle.frame_meaning.specs.declared.frames.Frame.TheVariants as frame
use Rattle.composables.specs.declared.media.Table.{Table}
use Rattle.composables.specs.TrackState.{TrackState}
use Rattle.timecode12.specs.declared.rate.SequenceRate.TheVariants.{F2997}
use Rattle.timecode12.specs.Numbers.{Counted}
use Rattle.reel_names.specs.declared.namer.ReelName.{ReelName}
use Rattle.reel_names.specs.Namers.{AreNames, NamerRule, name_of}
use Rattle.edl_write.specs.declared.list.Written.{Written}
use Rattle.edl_write.specs.declared.ordering.ChannelSegment.{ChannelSegment}
use Rattle.edl_write.specs.ListEvents.{events_of}
use Rattle.edl_write.specs.Order.{AreEventsOf}
use Rattle.edl_write.specs.Refusals.{IsListOf, list_written}
use Rattle.edl_read.specs.Reading.{list_read}
use Rattle.edl_laws.specs.Named.{named}
use Rattle.edl_laws.specs.RoundTrips.{PlaysAs, RoundTrips}

-- drop-frame counting is that of 30000/1001 frames a second alone
abbrev pub IsCounting : Counted → Type 0
IsCounting counting = IsTrue counting.drop_frame → counting.rate ≡ F2997

-- what is written of the events of a cut is read again, at its rate, as these events, each with the line that it ends
-- on
abbrev pub WrittenIsReadAgain : Type 0
WrittenIsReadAgain =
    (table : Table) (tracks : List TrackState) (counting : Counted) (start : ℕ) (rule : NamerRule)
    (given : List ReelName) (es : List ChannelSegment) (list : Written)
    → IsCounting counting → AreEventsOf table tracks es
    → list_written counting start rule given table.reels es ≡ Ok list → AreNames list.names
    → list_read counting.rate list.text ≡ Ok (events_of start list.names es)

-- and the tape of these events shows what the cut shows
abbrev pub EventsPlayAsTheirCut : Type 0
EventsPlayAsTheirCut =
    (table : Table) (tracks : List TrackState) (counting : Counted) (start : ℕ) (rule : NamerRule)
    (given : List ReelName) (es : List ChannelSegment) (list : Written)
    → AreEventsOf table tracks es
    → list_written counting start rule given table.reels es ≡ Ok list → AreNames list.names
    → PlaysAs (events_of start list.names es) start list.names table tracks

-- so a list that is written of a cut makes the round trip
abbrev pub WrittenListsRoundTrip : Type 0
WrittenListsRoundTrip =
    (table : Table) (tracks : List TrackState) (counting : Counted) (start : ℕ) (rule : NamerRule)
    (given : List ReelName) (list : Written)
    → IsCounting counting → IsListOf table tracks counting start rule given list → AreNames list.names
    → RoundTrips list.text counting.rate start list.names table tracks

-- each reel that a frame shows has a name
abbrev pub HasName : List ReelName → Side ℕ → Type 0
HasName names side.Dark = Unit {0}
HasName names (side.Pic reel source) = IsSome (name_of names reel)

abbrev pub HasNames : List ReelName → Frame ℕ → Type 0
HasNames names frame.Dark = Unit {0}
HasNames names (frame.Pic reel source) = IsSome (name_of names reel)
HasNames names (frame.Mix left right num den) = HasName names left × HasName names right

-- two frames that are named alike are one frame
abbrev pub NamedAlikeIsOne : Type 0
NamedAlikeIsOne =
    (names : List ReelName) (f g : Frame ℕ) → AreNames names → HasNames names f → HasNames names g
    → named names f ≡ named names g → f ≡ g
