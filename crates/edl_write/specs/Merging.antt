-- Two lists of events in order, made one: the steps of the code.
use Rattle.std.specs.Prelude.{◌≡◌, ℕ, List, [], ◌∷◌, ◌++◌, map, Option, Some, if◌then◌else◌}
use Rattle.flatten.specs.declared.cutting.Segment.{Segment}
use Rattle.edl_events.specs.declared.channel.Channel.{Channel}
use Rattle.edl_events.specs.declared.channel.Channel.TheVariants.{V, A, A2}
use Rattle.edl_write.specs.declared.fault.ListFault.{ListFault}
use Rattle.edl_write.specs.declared.fault.ListFault.TheVariants.{Channels, DissolveTooLong, Events, Memory, PartialDissolve, PastDay, Reel}
use Rattle.edl_write.specs.declared.ordering.ChannelSegment.{ChannelSegment}
use Rattle.edl_write.specs.Order.{comes_before, shown}

-- a segment as an event of a channel
abbrev pub on : Channel → Segment → ChannelSegment
on c s = record { channel = c; segment = s }

-- the events of a channel by itself
abbrev pub events_on : Channel → List Segment → List ChannelSegment
events_on c ss = map (on c) (shown ss)

-- the events that come before one, and the others
abbrev pub before : ChannelSegment → List ChannelSegment → List ChannelSegment
before e [] = []
before e (f ∷ fs) = if comes_before f e then f ∷ before e fs else []

abbrev pub behind : ChannelSegment → List ChannelSegment → List ChannelSegment
behind e [] = []
behind e (f ∷ fs) = if comes_before f e then behind e fs else f ∷ fs

abbrev pub merged : List ChannelSegment → List ChannelSegment → List ChannelSegment
merged [] fs = fs
merged (e ∷ es) fs = before e fs ++ e ∷ merged es (behind e fs)

-- the events of three channels
abbrev pub ordered : List Segment → List Segment → List Segment → List ChannelSegment
ordered picture sound second_sound = merged (merged (events_on V picture) (events_on A sound)) (events_on A2 second_sound)

-- a fault of a channel that has this first part of a dissolve
abbrev pub IsPartialFault : ListFault → Option ℕ → Type 0
IsPartialFault (Channels count) at = ⊥
IsPartialFault (PartialDissolve p) at = at ≡ Some p
IsPartialFault (DissolveTooLong p) at = ⊥
IsPartialFault (Events count) at = ⊥
IsPartialFault (PastDay frame) at = ⊥
IsPartialFault (Reel reel) at = ⊥
IsPartialFault Memory at = Unit {0}
