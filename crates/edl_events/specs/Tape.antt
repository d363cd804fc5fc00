-- The tape that a list of events makes: what each channel shows at each record frame, after CMX 3600. The weights of a
-- dissolve are this project's own: frame k of n, from 0, shows the incoming side with weight (k + 1) / (n + 1).
use Rattle.std.specs.Prelude.{ℕ, ◌+◌, ◌-◌, Bool, ◌&&◌, List, [], ◌∷◌, Option, Some, None, nat_le, nat_lt, if◌then◌else◌}
use Rattle.frame_meaning.specs.declared.frames.Side.{Side}
use Rattle.frame_meaning.specs.declared.frames.Side.TheVariants as side
use Rattle.frame_meaning.specs.declared.frames.Frame.{Frame}
use Rattle.frame_meaning.specs.declared.frames.Frame.TheVariants as frame
use Rattle.frame_meaning.specs.Cells.{later_side}
use Rattle.frame_meaning.specs.Render.{frame_of}
use Rattle.reel_names.specs.Names.{is_black}
use Rattle.edl_events.specs.declared.channel.Channel.{Channel}
use Rattle.edl_events.specs.declared.event.Event.{Event}
use Rattle.edl_events.specs.declared.event.FromLine.{FromLine}
use Rattle.edl_events.specs.Channels.{is_on}

-- a source frame of a reel; black is dark
abbrev pub side_of : List ℕ → ℕ → Side (List ℕ)
side_of reel source = if is_black reel then side.Dark else side.Pic reel source

-- the frame k of an event without a dissolve; and of one with a dissolve of n frames from a side
abbrev pub frame_in : Option FromLine → ℕ → Side (List ℕ) → ℕ → Frame (List ℕ)
frame_in None n incoming k = frame_of (later_side incoming k)
frame_in (Some from) n incoming k =
    if nat_lt k n
    then frame.Mix (later_side (side_of from.reel from.source) k) (later_side incoming k) (k + 1) (n + 1)
    else frame_of (later_side incoming k)

-- what an event shows at its frame k
abbrev pub event_frame : Event → ℕ → Frame (List ℕ)
event_frame e k = frame_in e.from e.frames (side_of e.reel e.source) k

-- whether an event is on a channel at a record frame
abbrev pub covers : Event → Channel → ℕ → Bool
covers e c q = is_on c e.channels && (nat_le e.place q && nat_lt q (e.place + e.len))

-- what a channel of the tape shows at a record frame: dark where no event is
abbrev pub tape_at : List Event → Channel → ℕ → Frame (List ℕ)
tape_at [] c q = frame.Dark
tape_at (e ∷ es) c q = if covers e c q then event_frame e (q - e.place) else tape_at es c q
