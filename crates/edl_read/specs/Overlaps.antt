-- Events that overlap: on one channel both have a record frame in common.
use Rattle.std.specs.Prelude.{◌≡◌, ℕ, ◌+◌, Bool, ◌&&◌, ◌||◌, List, [], ◌∷◌, Option, Some, None, nat_lt, if◌then◌else◌}
use Rattle.edl_events.specs.declared.channel.Channel.TheVariants.{V, A, A2}
use Rattle.edl_events.specs.declared.event.Event.{Event}
use Rattle.edl_events.specs.Channels.{is_on}

-- the record frame behind the last one of an event
abbrev pub record_out : Event → ℕ
record_out e = e.place + e.len

-- two sets have a channel in common
abbrev pub share : ℕ → ℕ → Bool
share channels others =
    (is_on V channels && is_on V others) || ((is_on A channels && is_on A others) || (is_on A2 channels && is_on A2 others))

abbrev pub overlap : Event → Event → Bool
overlap e f = share e.channels f.channels && (nat_lt e.place (record_out f) && nat_lt f.place (record_out e))

-- the line of the first of these events that overlaps with one
abbrev pub first_overlap : List Event → Event → Option ℕ
first_overlap [] e = None
first_overlap (f ∷ fs) e = if overlap f e then Some f.line else first_overlap fs e

-- no two of these overlap
abbrev pub AreApart : List Event → Type 0
AreApart [] = Unit {0}
AreApart (e ∷ es) = (first_overlap es e ≡ None) × AreApart es
