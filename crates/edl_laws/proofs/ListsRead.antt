-- A list that is written is read again.
use Rattle.std.proofs.Common.{◌≡◌, ℕ, ◌+◌, ◌<◌, ◌≤◌, Bool, true, false, cond, ◌&&◌, List, [], ◌∷◌, ◌++◌, Option, Some, None, IsTrue, Ok, length, nat_lt, refl, sym, ap, ◌∙◌, arith, subst, append_assoc}
use Rattle.std.specs.Prelude.{codes}
use Rattle.std.specs.List.{list_all}
use Rattle.std.proofs.lemmas.Bool.{and_parts, and_right, le-ltb, ltb-false, ltb-true}
use Rattle.frame_meaning.specs.declared.frames.Side.{Side}
use Rattle.edl_events.specs.declared.event.Event.{Event}
use Rattle.edl_write.specs.declared.list.Written.{Written}
use Rattle.composables.specs.TrackState.{TrackState}
use Rattle.composables.specs.declared.media.Table.{Table}
use Rattle.frame_meaning.specs.declared.frames.Side.TheVariants as side
use Rattle.flatten.specs.Segments.{HasDissolve}
use Rattle.line_words.specs.declared.line.LineEnd.TheVariants.{Whole}
use Rattle.timecode12.specs.declared.rate.SequenceRate.{SequenceRate}
use Rattle.timecode12.specs.declared.rate.SequenceRate.TheVariants.{F2997}
use Rattle.timecode12.specs.Labels.{day_of}
use Rattle.timecode12.specs.Numbers.{Counted}
use Rattle.reel_names.specs.declared.namer.ReelName.{ReelName}
use Rattle.reel_names.specs.Names.{is_reel_name}
use Rattle.reel_names.specs.Namers.{NamerRule, AreNames}
use Rattle.reel_names.proofs.NameBytes.{fits_named}
use Rattle.edl_events.specs.declared.channel.Channel.{Channel}
use Rattle.edl_events.specs.declared.channel.Channel.TheVariants.{V, A, A2}
use Rattle.edl_events.specs.Channels.{set_of}
use Rattle.edl_write.specs.declared.ordering.ChannelSegment.{ChannelSegment}
use Rattle.edl_write.specs.ListEvents.{event_of, events_behind, events_of, from_of, lines_in, name_of_side}
use Rattle.edl_write.specs.Order.{AreEventsOf, same_channel}
use Rattle.edl_write.specs.Refusals.{list_written, over_999}
use Rattle.edl_write.specs.Text.{counting_text, events_text, list_text}
use Rattle.edl_read.specs.declared.list.TheConstants.{MAX_LIST}
use Rattle.edl_lines.specs.ListLines.{ListLine, list_lines}
use Rattle.edl_read.specs.Overlaps.{overlap, share}
use Rattle.edl_read.specs.Reading.{after_line, first_reading, list_from, list_read, played_on}
use Rattle.edl_laws.specs.Meanings.{HasName, IsCounting, WrittenIsReadAgain}
use Rattle.edl_laws.proofs.EventsRead.{EachCanBeRead, EachIsClear, FramesFit, FromIsRead, IsClearOf, StandBehind, events_read, lines_of_from}
use Rattle.edl_laws.proofs.InOrder.{AreBehind, AreWithin, EachEventIs, EachIsShort, EachOnFrom, LeftIsBelow, each_is_behind, each_is_segment, none_is_long, none_is_past}
use Rattle.edl_laws.proofs.LineBytes.{EachAbove, next_line}
use Rattle.edl_laws.proofs.NamesGiven.{AreNamed, HasLeft}
use Rattle.edl_laws.proofs.PartsRead.{go_on}
use Rattle.edl_laws.proofs.ShortTexts.{list_short}
use Rattle.edl_laws.proofs.ReelsNamed.{name_fits, some_name}
use Rattle.edl_laws.proofs.WrittenLists.{written}

-- ---- the head of a list

above_from : (n : ℕ) (xs : List ℕ) → list_all (λ b. nat_lt n b) xs ≡ true → EachAbove n xs
above_from n [] h = tt
above_from n (x ∷ xs) h =
    let parts = and_parts (nat_lt n x) (list_all (λ b. nat_lt n b) xs) h in
    (ltb-true n x parts.0, above_from n xs parts.1)

title_line : (rest : List ℕ) → list_lines (codes "TITLE: CUT\n" ++ rest) ≡ record { text = codes "TITLE: CUT"; end = Whole } ∷ list_lines rest
title_line rest = next_line (codes "TITLE: CUT") rest (above_from 31 (codes "TITLE: CUT") refl) (omega arith)

-- what the line of the counting says
abbrev counting_words : Bool → List ℕ
counting_words true = codes "FCM: DROP FRAME"
counting_words false = codes "FCM: NON-DROP FRAME"

counting_line : (drop_frame : Bool) (rest : List ℕ) → list_lines (counting_text drop_frame ++ rest) ≡ record { text = counting_words drop_frame; end = Whole } ∷ list_lines rest
counting_line true rest = next_line (codes "FCM: DROP FRAME") rest (above_from 31 (codes "FCM: DROP FRAME") refl) (omega arith)
counting_line false rest = next_line (codes "FCM: NON-DROP FRAME") rest (above_from 31 (codes "FCM: NON-DROP FRAME") refl) (omega arith)

title_read : (rate : SequenceRate) → after_line rate 1 (first_reading rate) (record { text = codes "TITLE: CUT"; end = Whole }) ≡ Ok (first_reading rate)
title_read rate = refl

counting_read : (rate : SequenceRate) (drop_frame : Bool) → (IsTrue drop_frame → rate ≡ F2997)
    → after_line rate 2 (first_reading rate) (record { text = counting_words drop_frame; end = Whole }) ≡ played_on (record { rate = rate; drop_frame = drop_frame }) []
counting_read rate true lawful = rw (lawful refl) refl
counting_read rate false lawful = refl

head_read : (rate : SequenceRate) (drop_frame : Bool) (rest : List ℕ) → (IsTrue drop_frame → rate ≡ F2997)
    → list_read rate ((codes "TITLE: CUT\n" ++ counting_text drop_frame) ++ rest) ≡ list_from rate 3 (record { counting = record { rate = rate; drop_frame = drop_frame }; waits = None; played = [] }) (list_lines rest)
head_read rate drop_frame rest lawful =
    let r = first_reading rate in
    let fcm : ListLine = record { text = counting_words drop_frame; end = Whole } in
    ap (λ (t : List ℕ). list_from rate 1 r (list_lines t)) (append_assoc (codes "TITLE: CUT\n") (counting_text drop_frame) rest)
    ∙ (ap (list_from rate 1 r) (title_line (counting_text drop_frame ++ rest))
    ∙ (go_on (after_line rate 1 r (record { text = codes "TITLE: CUT"; end = Whole })) r (λ s. list_from rate 2 s (list_lines (counting_text drop_frame ++ rest))) (title_read rate)
    ∙ (ap (list_from rate 2 r) (counting_line drop_frame rest)
    ∙ go_on (after_line rate 2 r fcm) (record { counting = record { rate = rate; drop_frame = drop_frame }; waits = None; played = [] }) (λ s. list_from rate 3 s (list_lines rest)) (counting_read rate drop_frame lawful))))

-- ---- each event can be read

side_name : (names : List ReelName) (s : Side ℕ) → AreNames names → HasName names s → is_reel_name (name_of_side names s) ≡ true
side_name names side.Dark are has = refl
side_name names (side.Pic reel source) are has =
    let found = some_name names reel has in
    rw found.1 (fits_named found.0 (name_fits names reel found.0 are found.1))

left_read : (c : Counted) (names : List ReelName) (from : Option (Side ℕ)) → AreNames names → HasLeft names from → LeftIsBelow (length (day_of c)) from → FromIsRead c (from_of names from)
left_read c names None are has below = tt
left_read c names (Some left) are has below = (side_name names left are has, below)

frames_fit : (names : List ReelName) (from : Option (Side ℕ)) (frames len : ℕ) → HasDissolve from frames len → frames < 1000 → FramesFit (from_of names from) frames len
frames_fit names None frames len h few = h
frames_fit names (Some left) frames len h few = (h.0, h.1, few)

each_read : (c : Counted) (start : ℕ) (names : List ReelName) (lines : ℕ) (es : List ChannelSegment) → AreNames names → AreNamed names es → EachEventIs es → EachIsShort es → AreWithin (length (day_of c)) start es
    → EachCanBeRead c (events_behind start names lines es)
each_read c start names lines [] are named segments short within = tt
each_read c start names lines (e ∷ es) are named segments short within = (
  record {
    reel = side_name names e.segment.side are named.0.right;
    channel = (e.channel, refl);
    filled = segments.0.filled;
    from = left_read c names e.segment.from are named.0.left within.0.left;
    frames = frames_fit names e.segment.from e.segment.frames e.segment.len segments.0.dissolve short.0;
    source = within.0.source;
    place = within.0.place;
  },
  each_read c start names (lines + lines_in e.segment.from) es are named.1 segments.1 short.1 within.1,
)

-- ---- each stands on its line

same_lines : (names : List ReelName) (from : Option (Side ℕ)) → lines_in from ≡ lines_of_from (from_of names from)
same_lines names None = refl
same_lines names (Some left) = refl

stand : (start : ℕ) (names : List ReelName) (lines : ℕ) (es : List ChannelSegment) → StandBehind lines (events_behind start names lines es)
stand start names lines [] = tt
stand start names lines (e ∷ es) =
    let count : lines + lines_in e.segment.from ≡ lines + lines_of_from (from_of names e.segment.from) = ap (λ (n : ℕ). lines + n) (same_lines names e.segment.from) in
    (count, subst (λ (n : ℕ). StandBehind n (events_behind start names (lines + lines_in e.segment.from) es)) count (stand start names (lines + lines_in e.segment.from) es))

count_of : (start : ℕ) (names : List ReelName) (lines : ℕ) (es : List ChannelSegment) → length (events_behind start names lines es) ≡ length es
count_of start names lines [] = refl
count_of start names lines (e ∷ es) = omega (arith, count_of start names (lines + lines_in e.segment.from) es)

few_events : (n : ℕ) → over_999 n ≡ None → n ≤ 999
few_events n h = by (nat_lt 999 n) refl h
  where
    by : (b : Bool) → nat_lt 999 n ≡ b → cond b (Some n) None ≡ None → n ≤ 999
    by true is k = absurd cc
    by false is k = ltb-false 999 n is

-- ---- none overlaps with another

shared : (c d : Channel) → share (set_of c) (set_of d) ≡ same_channel d c
shared V V = refl
shared V A = refl
shared V A2 = refl
shared A V = refl
shared A A = refl
shared A A2 = refl
shared A2 V = refl
shared A2 A = refl
shared A2 A2 = refl

-- ranges of which one ends before the other begins
no_meeting : (start at len other : ℕ) (b : Bool) → at + len ≤ other → (b && nat_lt (start + other) (start + at + len)) ≡ false
no_meeting start at len other b h = and_right b (nat_lt (start + other) (start + at + len)) (le-ltb (start + other) (start + at + len) (omega (arith, h)))

no_overlap : (start : ℕ) (names : List ReelName) (m n : ℕ) (e f : ChannelSegment) → (same_channel f.channel e.channel ≡ true → e.segment.at + e.segment.len ≤ f.segment.at)
    → overlap (event_of start names m e) (event_of start names n f) ≡ false
no_overlap start names m n e f behind =
    ap (λ (b : Bool). b && (nat_lt (start + e.segment.at) (start + f.segment.at + f.segment.len) && nat_lt (start + f.segment.at) (start + e.segment.at + e.segment.len))) (shared e.channel f.channel)
    ∙ by (same_channel f.channel e.channel) refl
  where
    by : (b : Bool) → same_channel f.channel e.channel ≡ b
        → (b && (nat_lt (start + e.segment.at) (start + f.segment.at + f.segment.len) && nat_lt (start + f.segment.at) (start + e.segment.at + e.segment.len))) ≡ false
    by true is = no_meeting start e.segment.at e.segment.len f.segment.at (nat_lt (start + e.segment.at) (start + f.segment.at + f.segment.len)) (behind is)
    by false is = refl

clear_of : (start : ℕ) (names : List ReelName) (m lines : ℕ) (e : ChannelSegment) (fs : List ChannelSegment) → EachOnFrom (e.segment.at + e.segment.len) e.channel fs
    → IsClearOf (event_of start names m e) (events_behind start names lines fs)
clear_of start names m lines e [] h = tt
clear_of start names m lines e (f ∷ fs) h =
    (no_overlap start names m (lines + lines_in f.segment.from) e f h.0, clear_of start names m (lines + lines_in f.segment.from) e fs h.1)

each_clear : (start : ℕ) (names : List ReelName) (lines : ℕ) (es : List ChannelSegment) → AreBehind es → EachIsClear (events_behind start names lines es)
each_clear start names lines [] h = tt
each_clear start names lines (e ∷ es) h =
    (clear_of start names (lines + lines_in e.segment.from) (lines + lines_in e.segment.from) e es h.0, each_clear start names (lines + lines_in e.segment.from) es h.1)

-- ---- the list

read_again : (c : Counted) (start : ℕ) (names : List ReelName) (es : List ChannelSegment) → IsCounting c → AreNames names → AreNamed names es → EachEventIs es → EachIsShort es → AreWithin (length (day_of c)) start es
    → AreBehind es → length es ≤ 999 → list_read c.rate (list_text c (events_of start names es)) ≡ Ok (events_of start names es)
read_again c start names es lawful are named segments short within behind few =
    head_read c.rate c.drop_frame (events_text c 1 (events_of start names es)) lawful
    ∙ events_read c.rate c 2 1 [] (events_of start names es) (omega (arith, few, count_of start names 2 es)) (stand start names 2 es) (each_read c start names 2 es are named segments short within) tt (each_clear start names 2 es behind)

pub written_is_short : (table : Table) (tracks : List TrackState) (counting : Counted) (start : ℕ) (rule : NamerRule) (given : List ReelName) (es : List ChannelSegment) (list : Written)
    → AreEventsOf table tracks es → list_written counting start rule given table.reels es ≡ Ok list → AreNames list.names → length list.text ≤ MAX_LIST
written_is_short table tracks counting start rule given es list are is unique =
    let makes = written counting start rule given table.reels es list is in
    let events : List Event = events_of start list.names es in
    let few : length events ≤ 999 = omega (arith, few_events (length es) makes.count, count_of start list.names 2 es) in
    let read = each_read counting start list.names 2 es unique makes.named (each_is_segment table tracks es are) (none_is_long es makes.long) (none_is_past (length (day_of counting)) start es makes.past) in
    subst (λ (text : List ℕ). length text ≤ MAX_LIST) (sym makes.text) (list_short counting events few read)

pub written_is_read_again : WrittenIsReadAgain
written_is_read_again table tracks counting start rule given es list lawful are is unique =
    let makes = written counting start rule given table.reels es list is in
    ap (list_read counting.rate) makes.text
    ∙ read_again counting start list.names es lawful unique makes.named (each_is_segment table tracks es are) (none_is_long es makes.long) (none_is_past (length (day_of counting)) start es makes.past)
    (each_is_behind table tracks es are) (few_events (length es) makes.count)
