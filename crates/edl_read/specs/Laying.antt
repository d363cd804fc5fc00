-- Events as they lie on their channels: which of them begins where.
use Rattle.std.specs.Prelude.{◌≡◌, ◌<◌, ◌≤◌, ℕ, true, ◌&&◌, ◌==◌, List, Option, Some, slice_get, if◌then◌else◌}
use Rattle.std.specs.BTreeMap.{get}
use Rattle.std.specs.Ordering.{nat_cmp}
use Rattle.edl_events.specs.declared.channel.Channel.{Channel}
use Rattle.edl_events.specs.declared.channel.Channel.TheVariants.{V, A, A2}
use Rattle.edl_events.specs.declared.event.Event.{Event}
use Rattle.edl_events.specs.Channels.{is_on}
use Rattle.edl_read.specs.declared.starts.Starts.{Starts}
use Rattle.edl_read.specs.Overlaps.{record_out}
use Rattle.edl_read.specs.ReadLists.{CanBeRead}

-- the event with an index is on a channel, and begins at a record frame
abbrev pub BeginsAt : Channel → List Event → ℕ → ℕ → Type 0
BeginsAt c events place i = (e : Event) × (slice_get events i ≡ Some e) × (is_on c e.channels ≡ true) × (e.place ≡ place)

-- the index of the event that begins at a record frame
abbrev pub start_of : Starts → ℕ → Option ℕ
start_of s place = get nat_cmp s.indices place

-- this says of each record frame which event of a channel begins there
pub record AreStarts (c : Channel) (events : List Event) (starts : ℕ → Option ℕ) : Type 0 where
  pub begins : (place i : ℕ) → starts place ≡ Some i → BeginsAt c events place i
  pub each : (i : ℕ) (e : Event) → slice_get events i ≡ Some e → is_on c e.channels ≡ true → starts e.place ≡ Some i

-- the same of each channel
pub record AreLaid (events : List Event) (v a a2 : Starts) : Type 0 where
  pub read : CanBeRead events
  pub picture : AreStarts V events (start_of v)
  pub sound : AreStarts A events (start_of a)
  pub second_sound : AreStarts A2 events (start_of a2)

-- where an event with an index begins too, if it is on a channel
abbrev pub start_with : Channel → Event → ℕ → (ℕ → Option ℕ) → ℕ → Option ℕ
start_with c e i starts place = if is_on c e.channels && place == e.place then Some i else starts place

-- no event of a channel that begins before a record frame goes on past it
abbrev pub HaveEnded : List Event → Channel → ℕ → Type 0
HaveEnded events c at =
    (i : ℕ) (f : Event) → slice_get events i ≡ Some f → is_on c f.channels ≡ true → f.place < at → record_out f ≤ at

-- each event of a channel that begins before an event ends has ended before that begins, if that is on the channel
abbrev pub AreClearOf : List Event → Channel → Event → Type 0
AreClearOf events c e =
    (i : ℕ) (f : Event) → slice_get events i ≡ Some f → is_on c e.channels ≡ true → is_on c f.channels ≡ true
    → f.place < record_out e → record_out f ≤ e.place
