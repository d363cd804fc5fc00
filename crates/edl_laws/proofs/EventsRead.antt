-- The events of a list, written and read again, one after another.
use Rattle.std.proofs.Common.{◌≡◌, ℕ, ◌+◌, ◌<◌, ◌≤◌, Bool, true, false, cond, ◌&&◌, ◌==◌, List, [], ◌∷◌, ◌++◌, Option, Some, None, Result, Ok, Err, length, refl, sym, ap, ◌∙◌, arith, append_assoc, subst}
use Rattle.std.specs.List.{flat_map}
use Rattle.std.proofs.lemmas.Bool.{and_from, eq-eqb, ne_eqb}
use Rattle.std.proofs.lemmas.List.{append-nil}
use Rattle.line_words.specs.declared.line.LineEnd.TheVariants.{Whole}
use Rattle.timecode12.specs.declared.rate.SequenceRate.{SequenceRate}
use Rattle.timecode12.specs.Labels.{day_of}
use Rattle.timecode12.specs.Numbers.{Counted}
use Rattle.reel_names.specs.Names.{is_reel_name}
use Rattle.reel_names.specs.Namers.{three_digits}
use Rattle.edl_events.specs.declared.channel.Channel.{Channel}
use Rattle.edl_events.specs.declared.event.Event.{Event}
use Rattle.edl_events.specs.declared.event.FromLine.{FromLine}
use Rattle.edl_events.specs.Channels.{set_of}
use Rattle.edl_write.specs.declared.lines.EventText.{EventText}
use Rattle.edl_write.specs.Text.{events_text, line_text, lines_from as lines_of_event}
use Rattle.edl_read.specs.declared.fault.ListReadFault.{ListReadFault}
use Rattle.edl_lines.specs.declared.code.LineCode.TheVariants.{P9}
use Rattle.edl_read.specs.declared.fault.ListReadFault.TheVariants.{Refused}
use Rattle.edl_lines.specs.EventLines.{line_with, words_say}
use Rattle.edl_lines.specs.ListLines.{ListLine, list_lines}
use Rattle.edl_read.specs.Overlaps.{first_overlap, overlap}
use Rattle.edl_read.specs.Reading.{after_event, after_line, after_said, cut_event, dissolve_event, is_pair, list_from, played_on, unless_overlap, waiting_cut, with_event}
use Rattle.edl_lines.specs.Spelling.{◌>>=◌}
use Rattle.edl_laws.proofs.LineBytes.{next_line}
use Rattle.edl_laws.proofs.LinesRead.{IsLength, IsReadable, body_text, line_fits, line_says_words, line_then, words_behind, words_say_event}
use Rattle.edl_laws.proofs.PartsRead.{go_on, no_counting, no_note}

lines_then : (c : Counted) (l : EventText) (rest : List ℕ) → IsReadable c l → list_lines (line_text c l ++ rest) ≡ record { text = body_text c l; end = Whole } ∷ list_lines rest
lines_then c l rest h = let fits = line_fits c l h in ap list_lines (line_then c l rest) ∙ next_line (body_text c l) rest fits.above fits.few

added : (events : List Event) (e : Event) → first_overlap events e ≡ None → with_event events e ≡ Ok (events ++ e ∷ [])
added events e h = ap (λ (o : Option ℕ). unless_overlap o events e) h

-- ---- one line more

-- the line of a cut with frames
cut_line_read : (rate : SequenceRate) (c : Counted) (n : ℕ) (played : List Event) (l : EventText) → IsReadable c l → l.dissolve ≡ None → 0 < l.len
    → first_overlap played (cut_event n (line_with l.number l.reel l.channels l.dissolve (record { source = l.source; place = l.place; len = l.len }))) ≡ None
    → after_line rate n (record { counting = c; waits = None; played = played }) (record { text = body_text c l; end = Whole }) ≡ played_on c (played ++ cut_event n (line_with l.number l.reel l.channels l.dissolve (record { source = l.source; place = l.place; len = l.len })) ∷ [])
cut_line_read rate c n played l h cut filled free =
    let some : (l.len == 0) ≡ false = ne_eqb l.len 0 (λ e. omega (arith, filled, e)) in
    let told : after_said n (record { counting = c; waits = None; played = played }) (words_say rate c Whole (three_digits l.number ∷ words_behind c l)) ≡ after_event n (record { counting = c; waits = None; played = played }) (line_with l.number l.reel l.channels l.dissolve (record { source = l.source; place = l.place; len = l.len })) l.dissolve =
    rw (no_note l.number h.number, no_counting l.number h.number, words_say_event c l h) refl in
    ap (after_said n (record { counting = c; waits = None; played = played })) (line_says_words rate c l h)
    ∙ (told
    ∙ (ap (after_event n (record { counting = c; waits = None; played = played }) (line_with l.number l.reel l.channels l.dissolve (record { source = l.source; place = l.place; len = l.len }))) cut
    ∙ rw some (go_on (with_event played (cut_event n (line_with l.number l.reel l.channels l.dissolve (record { source = l.source; place = l.place; len = l.len })))) (played ++ cut_event n (line_with l.number l.reel l.channels l.dissolve (record { source = l.source; place = l.place; len = l.len })) ∷ []) (played_on c) (added played (cut_event n (line_with l.number l.reel l.channels l.dissolve (record { source = l.source; place = l.place; len = l.len }))) free))))

-- a cut without frames waits
waits_read : (rate : SequenceRate) (c : Counted) (n : ℕ) (played : List Event) (l : EventText) → IsReadable c l → l.dissolve ≡ None → l.len ≡ 0
    → after_line rate n (record { counting = c; waits = None; played = played }) (record { text = body_text c l; end = Whole }) ≡ Ok (record { counting = c; waits = Some (waiting_cut n (line_with l.number l.reel l.channels l.dissolve (record { source = l.source; place = l.place; len = l.len }))); played = played })
waits_read rate c n played l h cut empty =
    let none : (l.len == 0) ≡ true = eq-eqb l.len 0 empty in
    let told : after_said n (record { counting = c; waits = None; played = played }) (words_say rate c Whole (three_digits l.number ∷ words_behind c l)) ≡ after_event n (record { counting = c; waits = None; played = played }) (line_with l.number l.reel l.channels l.dissolve (record { source = l.source; place = l.place; len = l.len })) l.dissolve =
    rw (no_note l.number h.number, no_counting l.number h.number, words_say_event c l h) refl in
    ap (after_said n (record { counting = c; waits = None; played = played })) (line_says_words rate c l h)
    ∙ (told ∙ (ap (after_event n (record { counting = c; waits = None; played = played }) (line_with l.number l.reel l.channels l.dissolve (record { source = l.source; place = l.place; len = l.len }))) cut ∙ rw none refl))

-- the line of a dissolve, behind its cut
dissolve_line_read : (rate : SequenceRate) (c : Counted) (m n : ℕ) (played : List Event) (k l : EventText) (frames : ℕ) → IsReadable c l → l.dissolve ≡ Some frames
    → is_pair (waiting_cut m (line_with k.number k.reel k.channels k.dissolve (record { source = k.source; place = k.place; len = k.len }))) (line_with l.number l.reel l.channels l.dissolve (record { source = l.source; place = l.place; len = l.len })) ≡ true → first_overlap played (dissolve_event n (waiting_cut m (line_with k.number k.reel k.channels k.dissolve (record { source = k.source; place = k.place; len = k.len }))) (line_with l.number l.reel l.channels l.dissolve (record { source = l.source; place = l.place; len = l.len })) frames) ≡ None
    → after_line rate n (record { counting = c; waits = Some (waiting_cut m (line_with k.number k.reel k.channels k.dissolve (record { source = k.source; place = k.place; len = k.len }))); played = played }) (record { text = body_text c l; end = Whole }) ≡ played_on c (played ++ dissolve_event n (waiting_cut m (line_with k.number k.reel k.channels k.dissolve (record { source = k.source; place = k.place; len = k.len }))) (line_with l.number l.reel l.channels l.dissolve (record { source = l.source; place = l.place; len = l.len })) frames ∷ [])
dissolve_line_read rate c m n played k l frames h dissolve pair free =
    let told : after_said n (record { counting = c; waits = Some (waiting_cut m (line_with k.number k.reel k.channels k.dissolve (record { source = k.source; place = k.place; len = k.len }))); played = played }) (words_say rate c Whole (three_digits l.number ∷ words_behind c l)) ≡ after_event n (record { counting = c; waits = Some (waiting_cut m (line_with k.number k.reel k.channels k.dissolve (record { source = k.source; place = k.place; len = k.len }))); played = played }) (line_with l.number l.reel l.channels l.dissolve (record { source = l.source; place = l.place; len = l.len })) l.dissolve =
    rw (no_note l.number h.number, no_counting l.number h.number, words_say_event c l h) refl in
    ap (after_said n (record { counting = c; waits = Some (waiting_cut m (line_with k.number k.reel k.channels k.dissolve (record { source = k.source; place = k.place; len = k.len }))); played = played })) (line_says_words rate c l h)
    ∙ (told
    ∙ (ap (after_event n (record { counting = c; waits = Some (waiting_cut m (line_with k.number k.reel k.channels k.dissolve (record { source = k.source; place = k.place; len = k.len }))); played = played }) (line_with l.number l.reel l.channels l.dissolve (record { source = l.source; place = l.place; len = l.len }))) dissolve
    ∙ (ap (λ (b : Bool). cond b (with_event played (dissolve_event n (waiting_cut m (line_with k.number k.reel k.channels k.dissolve (record { source = k.source; place = k.place; len = k.len }))) (line_with l.number l.reel l.channels l.dissolve (record { source = l.source; place = l.place; len = l.len })) frames) >>= played_on c) (Err (Refused P9 n 0))) pair
    ∙ go_on (with_event played (dissolve_event n (waiting_cut m (line_with k.number k.reel k.channels k.dissolve (record { source = k.source; place = k.place; len = k.len }))) (line_with l.number l.reel l.channels l.dissolve (record { source = l.source; place = l.place; len = l.len })) frames)) (played ++ dissolve_event n (waiting_cut m (line_with k.number k.reel k.channels k.dissolve (record { source = k.source; place = k.place; len = k.len }))) (line_with l.number l.reel l.channels l.dissolve (record { source = l.source; place = l.place; len = l.len })) frames ∷ []) (played_on c)
    (added played (dissolve_event n (waiting_cut m (line_with k.number k.reel k.channels k.dissolve (record { source = k.source; place = k.place; len = k.len }))) (line_with l.number l.reel l.channels l.dissolve (record { source = l.source; place = l.place; len = l.len })) frames) free))))

-- ---- one event more

abbrev pub lines_of_from : Option FromLine → ℕ
lines_of_from None = 1
lines_of_from (Some from) = 2

abbrev pub FromIsRead : Counted → Option FromLine → Type 0
FromIsRead c None = Unit {0}
FromIsRead c (Some from) = (is_reel_name from.reel ≡ true) × (from.source < length (day_of c))

abbrev pub FramesFit : Option FromLine → ℕ → ℕ → Type 0
FramesFit None frames len = frames ≡ 0
FramesFit (Some from) frames len = (0 < frames) × (frames ≤ len) × (frames < 1000)

-- an event whose lines can be read
pub record CanBeRead (c : Counted) (e : Event) : Type 0 where
  pub reel : is_reel_name e.reel ≡ true
  pub channel : (ch : Channel) × (e.channels ≡ set_of ch)
  pub filled : 0 < e.len
  pub from : FromIsRead c e.from
  pub frames : FramesFit e.from e.frames e.len
  pub source : e.source + e.len < length (day_of c)
  pub place : e.place + e.len < length (day_of c)

-- the line of its own, and that of what a dissolve leaves
abbrev pub own_line : ℕ → Event → Option ℕ → EventText
own_line number e o = record { number = number; reel = e.reel; channels = e.channels; dissolve = o; source = e.source; place = e.place; len = e.len }

abbrev pub from_line : ℕ → Event → FromLine → EventText
from_line number e from = record { number = number; reel = from.reel; channels = e.channels; dissolve = None; source = from.source; place = e.place; len = 0 }

pub own_readable : (c : Counted) (number : ℕ) (e : Event) (o : Option ℕ) → number < 1000 → CanBeRead c e → IsLength o e.len → IsReadable c (own_line number e o)
own_readable c number e o small h fits = record { number = small; reel = h.reel; channel = h.channel; dissolve = fits; source = h.source; place = h.place }

pub from_readable : (c : Counted) (number : ℕ) (e : Event) (from : FromLine) → number < 1000 → CanBeRead c e → is_reel_name from.reel ≡ true → from.source < length (day_of c)
    → IsReadable c (from_line number e from)
from_readable c number e from small h named source_in =
    record { number = small; reel = named; channel = h.channel; dissolve = tt; source = omega (arith, source_in); place = omega (arith, h.place) }

cut_read : (rate : SequenceRate) (c : Counted) (lines number : ℕ) (played : List Event) (e : Event) (more : List ℕ) → number < 1000 → e.from ≡ None → e.line ≡ lines + 1 → CanBeRead c e → e.frames ≡ 0
    → first_overlap played e ≡ None
    → list_from rate (lines + 1) (record { counting = c; waits = None; played = played }) (list_lines (flat_map (line_text c) (lines_of_event number e None) ++ more)) ≡ list_from rate (lines + 1 + 1) (record { counting = c; waits = None; played = played ++ e ∷ [] }) (list_lines more)
cut_read rate c lines number played e more small none line h frames free =
    let l : EventText = own_line number e None in
    let readable : IsReadable c l = own_readable c number e None small h tt in
    let body : ListLine = record { text = body_text c l; end = Whole } in
    let is : cut_event (lines + 1) (line_with l.number l.reel l.channels l.dissolve (record { source = l.source; place = l.place; len = l.len })) ≡ e = cut_is e.line e.from e.frames line none frames in
    let read = cut_line_read rate c (lines + 1) played l readable refl h.filled (ap (first_overlap played) is ∙ free) in
    ap (λ (t : List ℕ). list_from rate (lines + 1) (record { counting = c; waits = None; played = played }) (list_lines (t ++ more))) (append-nil (line_text c l))
    ∙ (ap (list_from rate (lines + 1) (record { counting = c; waits = None; played = played })) (lines_then c l more readable)
    ∙ (go_on (after_line rate (lines + 1) (record { counting = c; waits = None; played = played }) body) (record { counting = c; waits = None; played = played ++ cut_event (lines + 1) (line_with l.number l.reel l.channels l.dissolve (record { source = l.source; place = l.place; len = l.len })) ∷ [] }) (λ t. list_from rate (lines + 1 + 1) t (list_lines more)) read
    ∙ ap (λ (x : Event). list_from rate (lines + 1 + 1) (record { counting = c; waits = None; played = played ++ x ∷ [] }) (list_lines more)) is))
  where
    cut_is : (line : ℕ) (from : Option FromLine) (frames : ℕ) → line ≡ lines + 1 → from ≡ None → frames ≡ 0
        → ◌≡◌ {A = Event} (record { line = lines + 1; reel = e.reel; from = None; frames = 0; channels = e.channels; source = e.source; place = e.place; len = e.len })
        (record { line = line; reel = e.reel; from = from; frames = frames; channels = e.channels; source = e.source; place = e.place; len = e.len })
    cut_is line from frames a b d = rw (a, b, d) refl

dissolve_read : (rate : SequenceRate) (c : Counted) (lines number : ℕ) (played : List Event) (e : Event) (from : FromLine) (more : List ℕ) → number < 1000 → e.from ≡ Some from → e.line ≡ lines + 2 → CanBeRead c e
    → is_reel_name from.reel ≡ true → from.source < length (day_of c) → IsLength (Some e.frames) e.len → first_overlap played e ≡ None
    → list_from rate (lines + 1) (record { counting = c; waits = None; played = played }) (list_lines (flat_map (line_text c) (lines_of_event number e (Some from)) ++ more)) ≡ list_from rate (lines + 2 + 1) (record { counting = c; waits = None; played = played ++ e ∷ [] }) (list_lines more)
dissolve_read rate c lines number played e from more small some line h named source_in fits free =
    let k : EventText = from_line number e from in
    let l : EventText = own_line number e (Some e.frames) in
    let first : IsReadable c k = from_readable c number e from small h named source_in in
    let second : IsReadable c l = own_readable c number e (Some e.frames) small h fits in
    let cut : ListLine = record { text = body_text c k; end = Whole } in
    let dissolve : ListLine = record { text = body_text c l; end = Whole } in
    let next : lines + 1 + 1 ≡ lines + 2 = omega arith in
    let is : dissolve_event (lines + 2) (waiting_cut (lines + 1) (line_with k.number k.reel k.channels k.dissolve (record { source = k.source; place = k.place; len = k.len }))) (line_with l.number l.reel l.channels l.dissolve (record { source = l.source; place = l.place; len = l.len })) e.frames ≡ e = dissolve_is e.line e.from line some in
    let pair : is_pair (waiting_cut (lines + 1) (line_with k.number k.reel k.channels k.dissolve (record { source = k.source; place = k.place; len = k.len }))) (line_with l.number l.reel l.channels l.dissolve (record { source = l.source; place = l.place; len = l.len })) ≡ true =
    and_from (number == number) (e.channels == e.channels && e.place == e.place) (eq-eqb number number refl)
    (and_from (e.channels == e.channels) (e.place == e.place) (eq-eqb e.channels e.channels refl) (eq-eqb e.place e.place refl)) in
    let text : flat_map (line_text c) (lines_of_event number e (Some from)) ++ more ≡ line_text c k ++ (line_text c l ++ more) =
    append_assoc (line_text c k) (line_text c l ++ []) more ∙ ap (λ (t : List ℕ). line_text c k ++ (t ++ more)) (append-nil (line_text c l)) in
    let waits = waits_read rate c (lines + 1) played k first refl refl in
    let read = dissolve_line_read rate c (lines + 1) (lines + 2) played k l e.frames second refl pair (ap (first_overlap played) is ∙ free) in
    ap (λ (t : List ℕ). list_from rate (lines + 1) (record { counting = c; waits = None; played = played }) (list_lines t)) text
    ∙ (ap (list_from rate (lines + 1) (record { counting = c; waits = None; played = played })) (lines_then c k (line_text c l ++ more) first)
    ∙ (go_on (after_line rate (lines + 1) (record { counting = c; waits = None; played = played }) cut) (record { counting = c; waits = Some (waiting_cut (lines + 1) (line_with k.number k.reel k.channels k.dissolve (record { source = k.source; place = k.place; len = k.len }))); played = played }) (λ t. list_from rate (lines + 1 + 1) t (list_lines (line_text c l ++ more))) waits
    ∙ (ap (λ (n : ℕ). list_from rate n (record { counting = c; waits = Some (waiting_cut (lines + 1) (line_with k.number k.reel k.channels k.dissolve (record { source = k.source; place = k.place; len = k.len }))); played = played }) (list_lines (line_text c l ++ more))) next
    ∙ (ap (list_from rate (lines + 2) (record { counting = c; waits = Some (waiting_cut (lines + 1) (line_with k.number k.reel k.channels k.dissolve (record { source = k.source; place = k.place; len = k.len }))); played = played })) (lines_then c l more second)
    ∙ (go_on (after_line rate (lines + 2) (record { counting = c; waits = Some (waiting_cut (lines + 1) (line_with k.number k.reel k.channels k.dissolve (record { source = k.source; place = k.place; len = k.len }))); played = played }) dissolve) (record { counting = c; waits = None; played = played ++ dissolve_event (lines + 2) (waiting_cut (lines + 1) (line_with k.number k.reel k.channels k.dissolve (record { source = k.source; place = k.place; len = k.len }))) (line_with l.number l.reel l.channels l.dissolve (record { source = l.source; place = l.place; len = l.len })) e.frames ∷ [] })
    (λ t. list_from rate (lines + 2 + 1) t (list_lines more)) read
    ∙ ap (λ (x : Event). list_from rate (lines + 2 + 1) (record { counting = c; waits = None; played = played ++ x ∷ [] }) (list_lines more)) is)))))
  where
    dissolve_is : (line : ℕ) (o : Option FromLine) → line ≡ lines + 2 → o ≡ Some from
        → ◌≡◌ {A = Event} (record { line = lines + 2; reel = e.reel; from = Some (record { reel = from.reel; source = from.source }); frames = e.frames; channels = e.channels; source = e.source; place = e.place; len = e.len })
        (record { line = line; reel = e.reel; from = o; frames = e.frames; channels = e.channels; source = e.source; place = e.place; len = e.len })
    dissolve_is line o a b = rw (a, b) refl

event_read : (rate : SequenceRate) (c : Counted) (lines number : ℕ) (played : List Event) (e : Event) (more : List ℕ) (o : Option FromLine) → e.from ≡ o → number < 1000 → e.line ≡ lines + lines_of_from o → CanBeRead c e
    → first_overlap played e ≡ None
    → list_from rate (lines + 1) (record { counting = c; waits = None; played = played }) (list_lines (flat_map (line_text c) (lines_of_event number e o) ++ more)) ≡ list_from rate (lines + lines_of_from o + 1) (record { counting = c; waits = None; played = played ++ e ∷ [] }) (list_lines more)
event_read rate c lines number played e more None is small line h free =
    cut_read rate c lines number played e more small is line h (subst (λ (o : Option FromLine). FramesFit o e.frames e.len) is h.frames) free
event_read rate c lines number played e more (Some from) is small line h free =
    let frames = subst (λ (o : Option FromLine). FramesFit o e.frames e.len) is h.frames in
    let left = subst (FromIsRead c) is h.from in
    dissolve_read rate c lines number played e from more small is line h left.0 left.1 frames free

-- ---- all events

-- an event overlaps with none of these
abbrev pub IsClearOf : Event → List Event → Type 0
IsClearOf e [] = Unit {0}
IsClearOf e (f ∷ fs) = (overlap e f ≡ false) × IsClearOf e fs

-- nor does each of some
abbrev pub AreClearOf : List Event → List Event → Type 0
AreClearOf [] fs = Unit {0}
AreClearOf (e ∷ es) fs = IsClearOf e fs × AreClearOf es fs

-- none overlaps with one behind it
abbrev pub EachIsClear : List Event → Type 0
EachIsClear [] = Unit {0}
EachIsClear (e ∷ es) = IsClearOf e es × EachIsClear es

none_overlaps : (played : List Event) (e : Event) (es : List Event) → AreClearOf played (e ∷ es) → first_overlap played e ≡ None
none_overlaps [] e es h = refl
none_overlaps (f ∷ fs) e es h = ap (λ (b : Bool). cond b (Some f.line) (first_overlap fs e)) h.0.0 ∙ none_overlaps fs e es h.1

clear_more : (played : List Event) (e : Event) (es : List Event) → AreClearOf played (e ∷ es) → IsClearOf e es → AreClearOf (played ++ e ∷ []) es
clear_more [] e es h k = (k, tt)
clear_more (f ∷ fs) e es h k = (h.0.1, clear_more fs e es h.1 k)

-- each is on the line where it ends, so many lines standing before the first
abbrev pub StandBehind : ℕ → List Event → Type 0
StandBehind lines [] = Unit {0}
StandBehind lines (e ∷ es) = (e.line ≡ lines + lines_of_from e.from) × StandBehind (lines + lines_of_from e.from) es

abbrev pub EachCanBeRead : Counted → List Event → Type 0
EachCanBeRead c [] = Unit {0}
EachCanBeRead c (e ∷ es) = CanBeRead c e × EachCanBeRead c es

same_list : (xs ys : List Event) → xs ≡ ys → ◌≡◌ {A = Result (List Event) ListReadFault} (Ok xs) (Ok ys)
same_list xs ys h = ap (λ (zs : List Event). Ok zs) h

pub events_read : (rate : SequenceRate) (c : Counted) (lines number : ℕ) (played es : List Event) → number + length es ≤ 1000 → StandBehind lines es → EachCanBeRead c es → AreClearOf played es → EachIsClear es
    → list_from rate (lines + 1) (record { counting = c; waits = None; played = played }) (list_lines (events_text c number es)) ≡ Ok (played ++ es)
events_read rate c lines number played [] few stand each clear apart = same_list played (played ++ []) (sym (append-nil played))
events_read rate c lines number played (e ∷ es) few stand each clear apart =
    let more : List ℕ = events_text c (number + 1) es in
    event_read rate c lines number played e more e.from refl (omega (arith, few)) stand.0 each.0 (none_overlaps played e es clear)
    ∙ (events_read rate c (lines + lines_of_from e.from) (number + 1) (played ++ e ∷ []) es (omega (arith, few)) stand.1 each.1 (clear_more played e es clear apart.0) apart.1
    ∙ same_list ((played ++ e ∷ []) ++ es) (played ++ e ∷ es) (append_assoc played (e ∷ []) es))
