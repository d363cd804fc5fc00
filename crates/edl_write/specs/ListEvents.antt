-- The events of a list, as a reader of its text gets them.
use Rattle.std.specs.Prelude.{ℕ, ◌+◌, List, [], ◌∷◌, ◌++◌, Option, Some, None}
use Rattle.std.specs.List.{flat_map}
use Rattle.std.specs.Option.{unwrap_or}
use Rattle.frame_meaning.specs.declared.frames.Side.{Side}
use Rattle.frame_meaning.specs.declared.frames.Side.TheVariants as side
use Rattle.reel_names.specs.Names.{black}
use Rattle.reel_names.specs.declared.namer.ReelName.{ReelName}
use Rattle.reel_names.specs.Namers.{name_of}
use Rattle.edl_events.specs.declared.event.Event.{Event}
use Rattle.edl_events.specs.declared.event.FromLine.{FromLine}
use Rattle.edl_events.specs.Channels.{set_of}
use Rattle.edl_write.specs.declared.ordering.ChannelSegment.{ChannelSegment}
use Rattle.edl_write.specs.Lines.{line_times}

-- the name of a side's reel, and its source frame; a dark side is black from 0. Each reel of a list has a name.
abbrev pub name_of_side : List ReelName → Side ℕ → List ℕ
name_of_side names side.Dark = black
name_of_side names (side.Pic reel source) = unwrap_or (name_of names reel) black

abbrev pub source_of : Side ℕ → ℕ
source_of side.Dark = 0
source_of (side.Pic reel source) = source

abbrev pub from_of : List ReelName → Option (Side ℕ) → Option FromLine
from_of names None = None
from_of names (Some left) = Some record { reel = name_of_side names left; source = source_of left }

-- how many lines a cut or a dissolve has
abbrev pub lines_in : Option (Side ℕ) → ℕ
lines_in None = 1
lines_in (Some left) = 2

-- an event whose last line is this one
abbrev pub event_of : ℕ → List ReelName → ℕ → ChannelSegment → Event
event_of start names line e = record {
  line = line;
  reel = name_of_side names e.segment.side;
  from = from_of names e.segment.from;
  frames = e.segment.frames;
  channels = set_of e.channel;
  source = source_of e.segment.side;
  place = start + e.segment.at;
  len = e.segment.len;
}

-- the events, where so many lines stand before them
abbrev pub events_behind : ℕ → List ReelName → ℕ → List ChannelSegment → List Event
events_behind start names lines [] = []
events_behind start names lines (e ∷ es) =
    event_of start names (lines + lines_in e.segment.from) e
    ∷ events_behind start names (lines + lines_in e.segment.from) es

-- the events of a list: two lines stand before the first
abbrev pub events_of : ℕ → List ReelName → List ChannelSegment → List Event
events_of start names es = events_behind start names 2 es

abbrev pub left_times : Option (Side ℕ) → ℕ → List ℕ
left_times None place = []
left_times (Some left) place = line_times (source_of left) place 0

-- the times of an event's lines, in order
abbrev pub times_of : ℕ → ChannelSegment → List ℕ
times_of start e =
    left_times e.segment.from (start + e.segment.at)
    ++ line_times (source_of e.segment.side) (start + e.segment.at) e.segment.len

abbrev pub times_of_all : ℕ → List ChannelSegment → List ℕ
times_of_all start es = flat_map (times_of start) es
