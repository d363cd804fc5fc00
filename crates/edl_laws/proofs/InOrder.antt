-- The events of a cut, one by one: each is a segment, and on one channel none begins before the one before it ends.
use Rattle.std.proofs.Common.{◌≡◌, ℕ, ◌+◌, ◌<◌, ◌≤◌, Bool, true, false, cond, not, ◌&&◌, List, [], ◌∷◌, ◌++◌, Option, Some, None, nat_le, nat_lt, refl, sym, ap, ◌∙◌, arith, subst}
use Rattle.std.proofs.lemmas.Bool.{eq-eqb, leb-false, ltb-false}
use Rattle.std.specs.Option.{option_or}
use Rattle.frame_meaning.specs.declared.frames.Side.{Side}
use Rattle.flatten.specs.declared.cutting.Segment.{Segment}
use Rattle.flatten.specs.Segments.{ArePlaced, EachIsSegment, IsSegment}
use Rattle.composables.specs.declared.media.Table.{Table}
use Rattle.composables.specs.TrackState.{TrackState}
use Rattle.edl_events.specs.declared.channel.Channel.{Channel}
use Rattle.edl_events.specs.declared.channel.Channel.TheVariants.{V, A, A2}
use Rattle.edl_write.specs.declared.ordering.ChannelSegment.{ChannelSegment}
use Rattle.edl_write.specs.Lines.{line_times}
use Rattle.edl_write.specs.ListEvents.{left_times, source_of, times_of, times_of_all}
use Rattle.edl_write.specs.Order.{AreEventsOf, is_dark, on_channel, rank, same_channel, shown}
use Rattle.edl_write.specs.Refusals.{first_past, long_in, long_on}
use Rattle.edl_laws.proofs.EventsPlay.{on_each}

same_own : (c : Channel) → same_channel c c ≡ true
same_own c = eq-eqb (rank c) (rank c) refl

own : (e : ChannelSegment) (es : List ChannelSegment) → on_channel e.channel (e ∷ es) ≡ e.segment ∷ on_channel e.channel es
own e es = ap (λ (b : Bool). cond b (e.segment ∷ on_channel e.channel es) (on_channel e.channel es)) (same_own e.channel)

-- ---- what is so of each segment of a list that some are left out of

shown_each : (ss : List Segment) → EachIsSegment ss → EachIsSegment (shown ss)
shown_each [] h = tt
shown_each (s ∷ ss) h = by (shown_each ss h.1) (not (is_dark s))
  where
    by : EachIsSegment (shown ss) → (b : Bool) → EachIsSegment (cond b (s ∷ shown ss) (shown ss))
    by rest true = (h.0, rest)
    by rest false = rest

abbrev pub EachFrom : ℕ → List Segment → Type 0
EachFrom n [] = Unit {0}
EachFrom n (s ∷ ss) = (n ≤ s.at) × EachFrom n ss

-- each begins where those before it end, or later
abbrev pub AreFollowing : List Segment → Type 0
AreFollowing [] = Unit {0}
AreFollowing (s ∷ ss) = EachFrom (s.at + s.len) ss × AreFollowing ss

placed_from : (n at : ℕ) (ss : List Segment) → n ≤ at → ArePlaced at ss → EachFrom n (shown ss)
placed_from n at [] le h = tt
placed_from n at (s ∷ ss) le h = by (placed_from n (at + s.len) ss (omega (arith, le)) h.1) (not (is_dark s))
  where
    by : EachFrom n (shown ss) → (b : Bool) → EachFrom n (cond b (s ∷ shown ss) (shown ss))
    by rest true = let first : n ≤ s.at = omega (arith, le, h.0) in (first, rest)
    by rest false = rest

shown_follow : (at : ℕ) (ss : List Segment) → ArePlaced at ss → AreFollowing (shown ss)
shown_follow at [] h = tt
shown_follow at (s ∷ ss) h = by (shown_follow (at + s.len) ss h.1) (not (is_dark s))
  where
    by : AreFollowing (shown ss) → (b : Bool) → AreFollowing (cond b (s ∷ shown ss) (shown ss))
    by rest true = (placed_from (s.at + s.len) (at + s.len) ss (omega (arith, h.0)) h.1, rest)
    by rest false = rest

-- ---- each event is a segment

abbrev pub EachEventIs : List ChannelSegment → Type 0
EachEventIs [] = Unit {0}
EachEventIs (e ∷ es) = IsSegment e.segment × EachEventIs es

each_event : (es : List ChannelSegment) → ((c : Channel) → EachIsSegment (on_channel c es)) → EachEventIs es
each_event [] h = tt
each_event (e ∷ es) h = ((subst EachIsSegment (own e es) (h e.channel)).0, each_event es (λ c. by c (same_channel e.channel c) (h c)))
  where
    by : (c : Channel) (b : Bool) → EachIsSegment (cond b (e.segment ∷ on_channel c es) (on_channel c es)) → EachIsSegment (on_channel c es)
    by c true k = k.1
    by c false k = k

-- ---- events of one channel follow one another

-- each event of a channel begins here or later
abbrev pub EachOnFrom : ℕ → Channel → List ChannelSegment → Type 0
EachOnFrom n c [] = Unit {0}
EachOnFrom n c (f ∷ fs) = (same_channel f.channel c ≡ true → n ≤ f.segment.at) × EachOnFrom n c fs

abbrev pub AreBehind : List ChannelSegment → Type 0
AreBehind [] = Unit {0}
AreBehind (e ∷ es) = EachOnFrom (e.segment.at + e.segment.len) e.channel es × AreBehind es

on_from : (n : ℕ) (c : Channel) (fs : List ChannelSegment) → EachFrom n (on_channel c fs) → EachOnFrom n c fs
on_from n c [] h = tt
on_from n c (f ∷ fs) h = by (on_from n c fs) (same_channel f.channel c) refl h
  where
    by : (EachFrom n (on_channel c fs) → EachOnFrom n c fs) → (b : Bool) → same_channel f.channel c ≡ b → EachFrom n (cond b (f.segment ∷ on_channel c fs) (on_channel c fs))
        → (same_channel f.channel c ≡ true → n ≤ f.segment.at) × EachOnFrom n c fs
    by rest true is k = ((λ same. k.0), rest k.1)
    by rest false is k = ((λ same. absurd cc), rest k)

all_behind : (es : List ChannelSegment) → ((c : Channel) → AreFollowing (on_channel c es)) → AreBehind es
all_behind [] h = tt
all_behind (e ∷ es) h =
    (on_from (e.segment.at + e.segment.len) e.channel es (subst AreFollowing (own e es) (h e.channel)).0, all_behind es (λ c. by c (same_channel e.channel c) (h c)))
  where
    by : (c : Channel) (b : Bool) → AreFollowing (cond b (e.segment ∷ on_channel c es) (on_channel c es)) → AreFollowing (on_channel c es)
    by c true k = k.1
    by c false k = k

pub each_is_segment : (table : Table) (tracks : List TrackState) (es : List ChannelSegment) → AreEventsOf table tracks es → EachEventIs es
each_is_segment table tracks es are = each_event es by
  where
    by : (c : Channel) → EachIsSegment (on_channel c es)
    by c = let lies = on_each table tracks es c are in subst EachIsSegment (sym lies.2) (shown_each lies.0 lies.1.each)

pub each_is_behind : (table : Table) (tracks : List TrackState) (es : List ChannelSegment) → AreEventsOf table tracks es → AreBehind es
each_is_behind table tracks es are = all_behind es by
  where
    by : (c : Channel) → AreFollowing (on_channel c es)
    by c = let lies = on_each table tracks es c are in subst AreFollowing (sym lies.2) (shown_follow 0 lies.0 lies.1.placed)

-- ---- no long dissolve, and no time past the day

none_or : (a b : Option ℕ) → option_or a b ≡ None → (a ≡ None) × (b ≡ None)
none_or None b h = (refl, h)
none_or (Some n) b h = absurd cc

on_none : (c : Channel) (es : List ChannelSegment) → long_in es ≡ None → long_on c es ≡ None
on_none V es h = (none_or (long_on V es) (option_or (long_on A es) (long_on A2 es)) h).0
on_none A es h = (none_or (long_on A es) (long_on A2 es) (none_or (long_on V es) (option_or (long_on A es) (long_on A2 es)) h).1).0
on_none A2 es h = (none_or (long_on A es) (long_on A2 es) (none_or (long_on V es) (option_or (long_on A es) (long_on A2 es)) h).1).1

abbrev pub EachIsShort : List ChannelSegment → Type 0
EachIsShort [] = Unit {0}
EachIsShort (e ∷ es) = (e.segment.frames < 1000) × EachIsShort es

short : (e : ChannelSegment) (es : List ChannelSegment) → long_on e.channel (e ∷ es) ≡ None → e.segment.frames < 1000
short e es h = by (nat_lt 999 e.segment.frames) refl (sym (ap (λ (b : Bool). cond (b && nat_lt 999 e.segment.frames) (Some e.segment.at) (long_on e.channel es)) (same_own e.channel)) ∙ h)
  where
    by : (b : Bool) → nat_lt 999 e.segment.frames ≡ b → cond b (Some e.segment.at) (long_on e.channel es) ≡ None → e.segment.frames < 1000
    by true is k = absurd cc
    by false is k = let few = ltb-false 999 e.segment.frames is in omega (arith, few)

each_short : (es : List ChannelSegment) → ((c : Channel) → long_on c es ≡ None) → EachIsShort es
each_short [] h = tt
each_short (e ∷ es) h = (short e es (h e.channel), each_short es (λ c. by c (same_channel e.channel c && nat_lt 999 e.segment.frames) (h c)))
  where
    by : (c : Channel) (b : Bool) → cond b (Some e.segment.at) (long_on c es) ≡ None → long_on c es ≡ None
    by c true k = absurd cc
    by c false k = k

pub none_is_long : (es : List ChannelSegment) → long_in es ≡ None → EachIsShort es
none_is_long es h = each_short es (λ c. on_none c es h)

abbrev pub AreBelow : ℕ → List ℕ → Type 0
AreBelow day [] = Unit {0}
AreBelow day (t ∷ ts) = (t < day) × AreBelow day ts

below : (day : ℕ) (ts : List ℕ) → first_past day ts ≡ None → AreBelow day ts
below day [] h = tt
below day (t ∷ ts) h = by (below day ts) (nat_le day t) refl h
  where
    by : (first_past day ts ≡ None → AreBelow day ts) → (b : Bool) → nat_le day t ≡ b → cond b (Some t) (first_past day ts) ≡ None → (t < day) × AreBelow day ts
    by rest true is k = absurd cc
    by rest false is k = (leb-false day t is, rest k)

both_below : (day : ℕ) (xs ys : List ℕ) → AreBelow day (xs ++ ys) → AreBelow day xs × AreBelow day ys
both_below day [] ys h = (tt, h)
both_below day (x ∷ xs) ys h = let rest = both_below day xs ys h.1 in ((h.0, rest.0), rest.1)

abbrev pub LeftIsBelow : ℕ → Option (Side ℕ) → Type 0
LeftIsBelow day None = Unit {0}
LeftIsBelow day (Some left) = source_of left < day

left_below : (day : ℕ) (from : Option (Side ℕ)) (place : ℕ) → AreBelow day (left_times from place) → LeftIsBelow day from
left_below day None place h = tt
left_below day (Some left) place h = h.0

-- an event within a day
pub record IsWithin (day start : ℕ) (e : ChannelSegment) : Type 0 where
  pub left : LeftIsBelow day e.segment.from
  pub source : source_of e.segment.side + e.segment.len < day
  pub place : start + e.segment.at + e.segment.len < day

abbrev pub AreWithin : ℕ → ℕ → List ChannelSegment → Type 0
AreWithin day start [] = Unit {0}
AreWithin day start (e ∷ es) = IsWithin day start e × AreWithin day start es

each_within : (day start : ℕ) (es : List ChannelSegment) → AreBelow day (times_of_all start es) → AreWithin day start es
each_within day start [] h = tt
each_within day start (e ∷ es) h =
    let parts = both_below day (times_of start e) (times_of_all start es) h in
    let place : ℕ = start + e.segment.at in
    let own = both_below day (left_times e.segment.from place) (line_times (source_of e.segment.side) place e.segment.len) parts.0 in
    (record { left = left_below day e.segment.from place own.0; source = own.1.1.0; place = own.1.1.1.1.0 }, each_within day start es parts.1)

pub none_is_past : (day start : ℕ) (es : List ChannelSegment) → first_past day (times_of_all start es) ≡ None → AreWithin day start es
none_is_past day start es h = each_within day start es (below day (times_of_all start es) h)
