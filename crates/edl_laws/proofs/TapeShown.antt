-- The tape of the events of a cut, channel by channel.
use Rattle.std.proofs.Common.{◌≡◌, ℕ, ◌+◌, ◌-◌, ◌<◌, Bool, true, false, cond, ◌&&◌, List, [], ◌∷◌, Option, Some, None, nat_le, nat_lt, refl, ap, ◌∙◌, arith}
use Rattle.std.proofs.lemmas.Bool.{and_right, lt-leb}
use Rattle.std.proofs.lemmas.Bool.Decides.{nat_tests}
use Rattle.frame_meaning.specs.declared.frames.Side.{Side}
use Rattle.frame_meaning.specs.declared.frames.Side.TheVariants as side
use Rattle.frame_meaning.specs.declared.frames.Frame.{Frame}
use Rattle.frame_meaning.specs.declared.frames.Frame.TheVariants as frame
use Rattle.frame_meaning.specs.Cells.{later_side}
use Rattle.frame_meaning.specs.Render.{frame_of}
use Rattle.flatten.specs.declared.cutting.Segment.{Segment}
use Rattle.reel_names.specs.declared.namer.ReelName.{ReelName}
use Rattle.reel_names.specs.Namers.{AreNames}
use Rattle.edl_events.specs.declared.channel.Channel.{Channel}
use Rattle.edl_events.specs.declared.channel.Channel.TheVariants.{V, A, A2}
use Rattle.edl_events.specs.declared.event.Event.{Event}
use Rattle.edl_events.specs.Channels.{is_on, set_of}
use Rattle.edl_events.specs.Tape.{covers, event_frame, frame_in, side_of, tape_at}
use Rattle.edl_write.specs.declared.ordering.ChannelSegment.{ChannelSegment}
use Rattle.edl_write.specs.ListEvents.{event_of, events_behind, from_of, lines_in, name_of_side, source_of}
use Rattle.edl_write.specs.Order.{on_channel, same_channel}
use Rattle.edl_laws.specs.Named.{named, named_side}
use Rattle.edl_laws.specs.Meanings.{HasName, HasNames}
use Rattle.edl_laws.proofs.ChannelFrames.{frame_in_segment, frame_k, lasts, strip_at}
use Rattle.edl_laws.proofs.NamesGiven.{AreNamed, HasLeft}
use Rattle.edl_laws.proofs.ReelsNamed.{named_not_black}

-- ---- a frame of an event is that of its segment, by the names of the reels

side_is : (names : List ReelName) (s : Side ℕ) → AreNames names → HasName names s → side_of (name_of_side names s) (source_of s) ≡ named_side names s
side_is names side.Dark are has = refl
side_is names (side.Pic reel source) are has = let other = named_not_black names reel are has in rw other refl

later_named : (names : List ReelName) (s : Side ℕ) (k : ℕ) → later_side (named_side names s) k ≡ named_side names (later_side s k)
later_named names side.Dark k = refl
later_named names (side.Pic reel source) k = refl

alone_named : (names : List ReelName) (s : Side ℕ) → frame_of (named_side names s) ≡ named names (frame_of s)
alone_named names side.Dark = refl
alone_named names (side.Pic reel source) = refl

later_is_named : (names : List ReelName) (s : Side ℕ) (k : ℕ) → AreNames names → HasName names s → later_side (side_of (name_of_side names s) (source_of s)) k ≡ named_side names (later_side s k)
later_is_named names s k are has = ap (λ (t : Side (List ℕ)). later_side t k) (side_is names s are has) ∙ later_named names s k

frame_is_named : (names : List ReelName) (s : Side ℕ) (k : ℕ) → AreNames names → HasName names s
    → frame_of (later_side (side_of (name_of_side names s) (source_of s)) k) ≡ named names (frame_of (later_side s k))
frame_is_named names s k are has = ap (λ (t : Side (List ℕ)). frame_of t) (later_is_named names s k are has) ∙ alone_named names (later_side s k)

frame_named : (names : List ReelName) (from : Option (Side ℕ)) (n : ℕ) (s : Side ℕ) (k : ℕ) → AreNames names → HasLeft names from → HasName names s
    → frame_in (from_of names from) n (side_of (name_of_side names s) (source_of s)) k ≡ named names (frame_k from n s k)
frame_named names None n s k are left has = frame_is_named names s k are has
frame_named names (Some l) n s k are left has = by (nat_lt k n)
  where
    by : (b : Bool)
        → cond b (frame.Mix (later_side (side_of (name_of_side names l) (source_of l)) k) (later_side (side_of (name_of_side names s) (source_of s)) k) (k + 1) (n + 1))
        (frame_of (later_side (side_of (name_of_side names s) (source_of s)) k))
        ≡ named names (cond b (frame.Mix (later_side l k) (later_side s k) (k + 1) (n + 1)) (frame_of (later_side s k)))
    by true =
        ap (λ (t : Side (List ℕ)). frame.Mix t (later_side (side_of (name_of_side names s) (source_of s)) k) (k + 1) (n + 1)) (later_is_named names l k are left)
        ∙ ap (λ (t : Side (List ℕ)). frame.Mix (named_side names (later_side l k)) t (k + 1) (n + 1)) (later_is_named names s k are has)
    by false = frame_is_named names s k are has

-- ---- where an event is

on_own : (c d : Channel) → is_on c (set_of d) ≡ same_channel d c
on_own V V = refl
on_own V A = refl
on_own V A2 = refl
on_own A V = refl
on_own A A = refl
on_own A A2 = refl
on_own A2 V = refl
on_own A2 A = refl
on_own A2 A2 = refl

moved_on : (start at len q : ℕ) → (nat_le (start + at) (start + q) && nat_lt (start + q) (start + at + len)) ≡ (nat_le at q && nat_lt q (at + len))
moved_on start at len q = grind (arith, nat_tests)

covered : (start : ℕ) (names : List ReelName) (line : ℕ) (e : ChannelSegment) (c : Channel) (q : ℕ) → covers (event_of start names line e) c (start + q) ≡ (same_channel e.channel c && lasts e.segment q)
covered start names line e c q =
    ap (λ (b : Bool). b && (nat_le (start + e.segment.at) (start + q) && nat_lt (start + q) (start + e.segment.at + e.segment.len))) (on_own c e.channel)
    ∙ ap (λ (b : Bool). same_channel e.channel c && b) (moved_on start e.segment.at e.segment.len q)

-- ---- the tape

choose : (names : List ReelName) (s : Segment) (ss : List Segment) (q : ℕ) (a b : Bool) (x r : Frame (List ℕ)) → lasts s q ≡ b → x ≡ named names (frame_in_segment s (q - s.at)) → r ≡ named names (strip_at ss q)
    → cond (a && b) x r ≡ named names (strip_at (cond a (s ∷ ss) ss) q)
choose names s ss q false b x r is here rest = rest
choose names s ss q true true x r is here rest = rw is here
choose names s ss q true false x r is here rest = rw is rest

pub tape_shown : (start : ℕ) (names : List ReelName) (lines : ℕ) (es : List ChannelSegment) (c : Channel) (q : ℕ) → AreNames names → AreNamed names es
    → tape_at (events_behind start names lines es) c (start + q) ≡ named names (strip_at (on_channel c es) q)
tape_shown start names lines [] c q are h = refl
tape_shown start names lines (e ∷ es) c q are h =
    let s : Segment = e.segment in
    let ev : Event = event_of start names (lines + lines_in s.from) e in
    let rest = tape_shown start names (lines + lines_in s.from) es c q are h.1 in
    let place : start + q - (start + s.at) ≡ q - s.at = omega arith in
    let here : event_frame ev (start + q - (start + s.at)) ≡ named names (frame_in_segment s (q - s.at)) =
    ap (event_frame ev) place ∙ frame_named names s.from s.frames s.side (q - s.at) are h.0.left h.0.right in
    ap (λ (b : Bool). cond b (event_frame ev (start + q - (start + s.at))) (tape_at (events_behind start names (lines + lines_in s.from) es) c (start + q))) (covered start names (lines + lines_in s.from) e c q)
    ∙ choose names s (on_channel c es) q (same_channel e.channel c) (lasts s q) _ _ refl here rest

pub tape_before : (start : ℕ) (names : List ReelName) (lines : ℕ) (es : List ChannelSegment) (c : Channel) (at : ℕ) → at < start → tape_at (events_behind start names lines es) c at ≡ frame.Dark
tape_before start names lines [] c at h = refl
tape_before start names lines (e ∷ es) c at h =
    let ev : Event = event_of start names (lines + lines_in e.segment.from) e in
    let early : nat_le (start + e.segment.at) at ≡ false = lt-leb (start + e.segment.at) at (omega (arith, h)) in
    let none : covers ev c at ≡ false =
    and_right (is_on c (set_of e.channel)) _ (ap (λ (b : Bool). b && nat_lt at (start + e.segment.at + e.segment.len)) early) in
    ap (λ (b : Bool). cond b (event_frame ev (at - (start + e.segment.at))) (tape_at (events_behind start names (lines + lines_in e.segment.from) es) c at)) none
    ∙ tape_before start names (lines + lines_in e.segment.from) es c at h

-- ---- and with the names taken back

side_later : (names : List ReelName) (s : Side ℕ) (k : ℕ) → HasName names s → HasName names (later_side s k)
side_later names side.Dark k h = tt
side_later names (side.Pic reel source) k h = h

alone_has : (names : List ReelName) (s : Side ℕ) → HasName names s → HasNames names (frame_of s)
alone_has names side.Dark h = tt
alone_has names (side.Pic reel source) h = h

frame_has : (names : List ReelName) (from : Option (Side ℕ)) (n : ℕ) (s : Side ℕ) (k : ℕ) → HasLeft names from → HasName names s → HasNames names (frame_k from n s k)
frame_has names None n s k left has = alone_has names (later_side s k) (side_later names s k has)
frame_has names (Some l) n s k left has = by (nat_lt k n)
  where
    by : (b : Bool) → HasNames names (cond b (frame.Mix (later_side l k) (later_side s k) (k + 1) (n + 1)) (frame_of (later_side s k)))
    by true = (side_later names l k left, side_later names s k has)
    by false = alone_has names (later_side s k) (side_later names s k has)

pub strip_has : (names : List ReelName) (es : List ChannelSegment) (c : Channel) (q : ℕ) → AreNamed names es → HasNames names (strip_at (on_channel c es) q)
strip_has names [] c q h = tt
strip_has names (e ∷ es) c q h = by (strip_has names es c q h.1) (same_channel e.channel c) (lasts e.segment q) refl
  where
    by : HasNames names (strip_at (on_channel c es) q) → (a b : Bool) → lasts e.segment q ≡ b → HasNames names (strip_at (cond a (e.segment ∷ on_channel c es) (on_channel c es)) q)
    by rest false b is = rest
    by rest true true is = rw is (frame_has names e.segment.from e.segment.frames e.segment.side (q - e.segment.at) h.0.left h.0.right)
    by rest true false is = rw is rest
