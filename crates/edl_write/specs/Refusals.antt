-- Why a cut has no list, in the order in which it is looked at: its channels, parts of dissolves, long dissolves, the
-- count of its events, the day, the names of its reels.
use Rattle.std.specs.Prelude.{◌≡◌, ℕ, ◌<◌, ◌≤◌, ◌&&◌, List, [], ◌∷◌, Option, Some, None, Result, Ok, Err, length, nat_le, nat_lt, if◌then◌else◌}
use Rattle.std.specs.Option.{option_or}
use Rattle.composables.specs.declared.media.Table.{Table}
use Rattle.composables.specs.TrackState.{TrackState}
use Rattle.flatten.specs.Channels.{audio_frames, maximal_runs, video_frames}
use Rattle.flatten.specs.Segments.{first_partial}
use Rattle.timecode12.specs.Numbers.{Counted}
use Rattle.timecode12.specs.Labels.{day_of}
use Rattle.reel_names.specs.declared.namer.ReelName.{ReelName}
use Rattle.reel_names.specs.Namers.{NamerRule}
use Rattle.edl_events.specs.declared.channel.Channel.{Channel}
use Rattle.edl_events.specs.declared.channel.Channel.TheVariants.{V, A, A2}
use Rattle.edl_write.specs.declared.fault.ListFault.{ListFault}
use Rattle.edl_write.specs.declared.fault.ListFault.TheVariants.{Channels, DissolveTooLong, Events, Memory, PartialDissolve, PastDay, Reel}
use Rattle.edl_write.specs.declared.list.Written.{Written}
use Rattle.edl_write.specs.declared.ordering.ChannelSegment.{ChannelSegment}
use Rattle.edl_write.specs.Order.{AreEventsOf, audio_channel, same_channel}
use Rattle.edl_write.specs.ListEvents.{events_of, times_of_all}
use Rattle.edl_write.specs.Naming.{Names, naming, no_names, reels_of_all}
use Rattle.edl_write.specs.Text.{list_text}

-- the first part of a dissolve in the channels V, A, A2, each from its start
abbrev pub partial_in : Table → List TrackState → Option ℕ
partial_in table tracks =
    option_or (first_partial 0 (maximal_runs (video_frames table tracks)))
    (option_or (first_partial 0 (maximal_runs (audio_channel table tracks 0)))
    (first_partial 0 (maximal_runs (audio_channel table tracks 1))))

-- the first dissolve of a channel that has over 999 frames, and the first in V, A, A2
abbrev pub long_on : Channel → List ChannelSegment → Option ℕ
long_on c [] = None
long_on c (e ∷ es) = if same_channel e.channel c && nat_lt 999 e.segment.frames then Some e.segment.at else long_on c es

abbrev pub long_in : List ChannelSegment → Option ℕ
long_in es = option_or (long_on V es) (option_or (long_on A es) (long_on A2 es))

-- the first of these frames that is not below the day
abbrev pub first_past : ℕ → List ℕ → Option ℕ
first_past day [] = None
first_past day (t ∷ ts) = if nat_le day t then Some t else first_past day ts

-- a fault, where there is one, comes before an answer
abbrev pub unless : {A : Type 0} → (ℕ → ListFault) → Option ℕ → Result A ListFault → Result A ListFault
unless fault None answer = answer
unless fault (Some n) answer = Err (fault n)

-- how many, where that is over 999
abbrev pub over_999 : ℕ → Option ℕ
over_999 count = if nat_lt 999 count then Some count else None

-- the list with these names, or the reel that has none
abbrev pub named : Counted → ℕ → List ChannelSegment → Result Names ℕ → Result Written ListFault
named counting start es (Err reel) = Err (Reel reel)
named counting start es (Ok names) = Ok record { text = list_text counting (events_of start names.used es); names = names.used }

-- the list of these events, or why there is none
abbrev pub list_written : Counted → ℕ → NamerRule → List ReelName → List (List ℕ) → List ChannelSegment → Result Written ListFault
list_written counting start rule given texts es =
    unless DissolveTooLong (long_in es)
    (unless Events (over_999 (length es))
    (unless PastDay (first_past (length (day_of counting)) (times_of_all start es))
    (named counting start es (naming rule texts (Ok (no_names given)) (reels_of_all es)))))

-- a list is that of the cut's events
abbrev pub IsListOf : Table → List TrackState → Counted → ℕ → NamerRule → List ReelName → Written → Type 0
IsListOf table tracks counting start rule given list =
    (es : List ChannelSegment) × AreEventsOf table tracks es × (list_written counting start rule given table.reels es ≡ Ok list)

-- a refusal by the cut's events
abbrev pub IsRefusedByEvents : Table → List TrackState → Counted → ℕ → NamerRule → List ReelName → ListFault → Type 0
IsRefusedByEvents table tracks counting start rule given fault =
    (es : List ChannelSegment) × AreEventsOf table tracks es × (list_written counting start rule given table.reels es ≡ Err fault)

-- a refusal of the cut's channels
abbrev pub IsRefusedForChannels : Table → List TrackState → ListFault → Type 0
IsRefusedForChannels table tracks (Channels count) = (count ≡ length (audio_frames table tracks)) × (2 < count)
IsRefusedForChannels table tracks (PartialDissolve at) =
    (length (audio_frames table tracks) ≤ 2) × (partial_in table tracks ≡ Some at)
IsRefusedForChannels table tracks (DissolveTooLong at) = ⊥
IsRefusedForChannels table tracks (Events count) = ⊥
IsRefusedForChannels table tracks (PastDay frame) = ⊥
IsRefusedForChannels table tracks (Reel reel) = ⊥
IsRefusedForChannels table tracks Memory = Unit {0}

-- a cut has no list for this reason. Want of memory is no refusal of the cut.
abbrev pub IsRefused : Table → List TrackState → Counted → ℕ → NamerRule → List ReelName → ListFault → Type 0
IsRefused table tracks counting start rule given (Channels count) = IsRefusedForChannels table tracks (Channels count)
IsRefused table tracks counting start rule given (PartialDissolve at) = IsRefusedForChannels table tracks (PartialDissolve at)
IsRefused table tracks counting start rule given (DissolveTooLong at) =
    IsRefusedByEvents table tracks counting start rule given (DissolveTooLong at)
IsRefused table tracks counting start rule given (Events count) =
    IsRefusedByEvents table tracks counting start rule given (Events count)
IsRefused table tracks counting start rule given (PastDay frame) =
    IsRefusedByEvents table tracks counting start rule given (PastDay frame)
IsRefused table tracks counting start rule given (Reel reel) =
    IsRefusedByEvents table tracks counting start rule given (Reel reel)
IsRefused table tracks counting start rule given Memory = Unit {0}

-- the same of what is looked at before any name is asked for
abbrev pub IsRefusedBefore : ℕ → ℕ → List ChannelSegment → ListFault → Type 0
IsRefusedBefore day start es (Channels count) = ⊥
IsRefusedBefore day start es (PartialDissolve at) = ⊥
IsRefusedBefore day start es (DissolveTooLong at) = long_in es ≡ Some at
IsRefusedBefore day start es (Events count) = (long_in es ≡ None) × (over_999 (length es) ≡ Some count)
IsRefusedBefore day start es (PastDay frame) =
    (long_in es ≡ None) × (over_999 (length es) ≡ None) × (first_past day (times_of_all start es) ≡ Some frame)
IsRefusedBefore day start es (Reel reel) = ⊥
IsRefusedBefore day start es Memory = ⊥

-- what a call may answer for a cut and a namer
abbrev pub IsAnswer : Table → List TrackState → Counted → ℕ → NamerRule → List ReelName → Result Written ListFault → Type 0
IsAnswer table tracks counting start rule given (Ok list) = IsListOf table tracks counting start rule given list
IsAnswer table tracks counting start rule given (Err fault) = IsRefused table tracks counting start rule given fault
