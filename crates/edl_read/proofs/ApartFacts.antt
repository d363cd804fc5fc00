-- Events of which no two overlap.
use Rattle.std.proofs.Common.{◌≡◌, ℕ, ◌<◌, Bool, true, false, cond, ◌&&◌, ◌||◌, List, [], ◌∷◌, ◌++◌, Some, None, nat_lt, ◌⊎◌, inl, inr, refl, sym, subst, ◌∙◌}
use Rattle.std.proofs.lemmas.Bool.{and_parts, and_from, lt-ltb, ltb-true, or_cases, or_left, or_right, both_ways, cond-false, false_from_ne_true}
use Rattle.edl_events.specs.declared.channel.Channel.{Channel}
use Rattle.edl_events.specs.declared.channel.Channel.TheVariants.{V, A, A2}
use Rattle.edl_events.specs.declared.event.Event.{Event}
use Rattle.edl_events.specs.Channels.{is_on}
use Rattle.edl_events.specs.Events.{IsEvent, AreEvents}
use Rattle.edl_read.specs.Overlaps.{record_out, share, overlap, first_overlap, AreApart}
use Rattle.edl_read.specs.ReadLists.{CanBeRead}

-- which way a test went
chosen : {X : Type 0} (b : Bool) (x y z : X) → cond b x y ≡ z → ((b ≡ true) × (x ≡ z)) ⊎ ((b ≡ false) × (y ≡ z))
chosen true x y z h = inl (refl, h)
chosen false x y z h = inr (refl, h)

share_cases : (channels others : ℕ) → share channels others ≡ true → (c : Channel) × (is_on c channels ≡ true) × (is_on c others ≡ true)
share_cases channels others h =
    elim (or_cases (is_on V channels && is_on V others) ((is_on A channels && is_on A others) || (is_on A2 channels && is_on A2 others)) h) [
      | inl v ↦ let both = and_parts (is_on V channels) (is_on V others) v in (V, both.0, both.1)
      | inr more ↦ elim (or_cases (is_on A channels && is_on A others) (is_on A2 channels && is_on A2 others) more) [
        | inl a ↦ let both = and_parts (is_on A channels) (is_on A others) a in (A, both.0, both.1)
        | inr a2 ↦ let both = and_parts (is_on A2 channels) (is_on A2 others) a2 in (A2, both.0, both.1)
      ]
    ]

shared : (c : Channel) (channels others : ℕ) → is_on c channels ≡ true → is_on c others ≡ true → share channels others ≡ true
shared V channels others x y = or_left (is_on V channels && is_on V others) _ (and_from (is_on V channels) (is_on V others) x y)
shared A channels others x y =
    or_right (is_on V channels && is_on V others) _ (or_left (is_on A channels && is_on A others) _ (and_from (is_on A channels) (is_on A others) x y))
shared A2 channels others x y =
    or_right (is_on V channels && is_on V others) _ (or_right (is_on A channels && is_on A others) _ (and_from (is_on A2 channels) (is_on A2 others) x y))

pub overlap_told : (e f : Event) → overlap e f ≡ true → (c : Channel) × (is_on c e.channels ≡ true) × (is_on c f.channels ≡ true) × (e.place < record_out f) × (f.place < record_out e)
overlap_told e f h =
    let both = and_parts (share e.channels f.channels) (nat_lt e.place (record_out f) && nat_lt f.place (record_out e)) h in
    let ends = and_parts (nat_lt e.place (record_out f)) (nat_lt f.place (record_out e)) both.1 in
    let on = share_cases e.channels f.channels both.0 in
    (on.0, on.1, on.2, ltb-true e.place (record_out f) ends.0, ltb-true f.place (record_out e) ends.1)

pub overlap_from : (c : Channel) (e f : Event) → is_on c e.channels ≡ true → is_on c f.channels ≡ true → e.place < record_out f → f.place < record_out e → overlap e f ≡ true
overlap_from c e f x y low high =
    and_from (share e.channels f.channels) (nat_lt e.place (record_out f) && nat_lt f.place (record_out e)) (shared c e.channels f.channels x y)
    (and_from (nat_lt e.place (record_out f)) (nat_lt f.place (record_out e)) (lt-ltb e.place (record_out f) low) (lt-ltb f.place (record_out e) high))

pub overlap_either : (e f : Event) → overlap e f ≡ false → overlap f e ≡ false
overlap_either e f h = false_from_ne_true (overlap f e) (λ meets. let told = overlap_told f e meets in both_ways (overlap e f) h (overlap_from told.0 e f told.2 told.1 told.4 told.3))

pub first_none : (f : Event) (fs : List Event) (e : Event) → first_overlap (f ∷ fs) e ≡ None → (overlap f e ≡ false) × (first_overlap fs e ≡ None)
first_none f fs e h = elim (chosen (overlap f e) (Some f.line) (first_overlap fs e) None h) [
  | inl here ↦ absurd cc
  | inr past ↦ past
]

pub none_first : (f : Event) (fs : List Event) (e : Event) → overlap f e ≡ false → first_overlap fs e ≡ None → first_overlap (f ∷ fs) e ≡ None
none_first f fs e h more = cond-false (overlap f e) (Some f.line) (first_overlap fs e) h ∙ more

none_more : (events : List Event) (e f : Event) → first_overlap events f ≡ None → overlap e f ≡ false → first_overlap (events ++ e ∷ []) f ≡ None
none_more [] e f none off = none_first e [] f off refl
none_more (g ∷ gs) e f none off = let parts = first_none g gs f none in none_first g (gs ++ e ∷ []) f parts.0 (none_more gs e f parts.1 off)

apart_more : (events : List Event) (e : Event) → AreApart events → first_overlap events e ≡ None → AreApart (events ++ e ∷ [])
apart_more [] e apart none = (refl, tt)
apart_more (f ∷ fs) e apart none = let parts = first_none f fs e none in (none_more fs e f apart.0 (overlap_either f e parts.0), apart_more fs e apart.1 parts.1)

events_more : (events : List Event) (e : Event) → AreEvents events → IsEvent e → AreEvents (events ++ e ∷ [])
events_more [] e good last = (last, tt)
events_more (f ∷ fs) e good last = (good.0, events_more fs e good.1 last)

-- an event more, which overlaps with none, can be read too
pub read_more : (events more : List Event) (e : Event) → CanBeRead events → IsEvent e → first_overlap events e ≡ None → more ≡ events ++ e ∷ [] → CanBeRead more
read_more events more e read good none is =
    let P : List Event → Type 0 = λ es. CanBeRead es in
    subst P (sym is) (record { each = events_more events e read.each good; apart = apart_more events e read.apart none })
