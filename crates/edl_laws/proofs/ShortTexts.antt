-- A list that is written is short enough to be read.
use Rattle.std.proofs.Common.{◌≡◌, ℕ, ◌+◌, ◌*◌, ◌<◌, ◌≤◌, Bool, true, false, List, [], ◌∷◌, ◌++◌, Option, Some, None, length, refl, arith, subst}
use Rattle.std.specs.Prelude.{codes}
use Rattle.std.specs.List.{flat_map}
use Rattle.std.proofs.lemmas.List.{length-append}
use Rattle.timecode12.specs.Numbers.{Counted}
use Rattle.edl_events.specs.declared.event.Event.{Event}
use Rattle.edl_events.specs.declared.event.FromLine.{FromLine}
use Rattle.edl_write.specs.declared.lines.EventText.{EventText}
use Rattle.edl_write.specs.Text.{counting_text, event_text, events_text, head_text, line_text, lines_from, list_text}
use Rattle.edl_read.specs.declared.list.TheConstants.{MAX_LIST}
use Rattle.edl_laws.proofs.EventsRead.{CanBeRead, EachCanBeRead, FramesFit, FromIsRead, from_line, from_readable, own_line, own_readable}
use Rattle.edl_laws.proofs.LinesRead.{IsReadable, body_text, line_fits}

line_short : (c : Counted) (l : EventText) → IsReadable c l → length (line_text c l) ≤ 1025
line_short c l h =
    let count : length (line_text c l) ≡ length (body_text c l) + 1 = length-append (body_text c l) (codes "\n") in
    omega (arith, count, (line_fits c l h).few)

event_short_of : (c : Counted) (number : ℕ) (e : Event) (o : Option FromLine) → e.from ≡ o → number < 1000 → CanBeRead c e → length (flat_map (line_text c) (lines_from number e o)) ≤ 2050
event_short_of c number e None is small h =
    let l : EventText = own_line number e None in
    let count : length (line_text c l ++ []) ≡ length (line_text c l) + 0 = length-append (line_text c l) [] in
    omega (arith, count, line_short c l (own_readable c number e None small h tt))
event_short_of c number e (Some from) is small h =
    let frames = subst (λ (o : Option FromLine). FramesFit o e.frames e.len) is h.frames in
    let left = subst (FromIsRead c) is h.from in
    let k : EventText = from_line number e from in
    let l : EventText = own_line number e (Some e.frames) in
    let second : length (line_text c l ++ []) ≡ length (line_text c l) + 0 = length-append (line_text c l) [] in
    let count : length (line_text c k ++ (line_text c l ++ [])) ≡ length (line_text c k) + length (line_text c l ++ []) = length-append (line_text c k) (line_text c l ++ []) in
    omega (arith, count, second, line_short c k (from_readable c number e from small h left.0 left.1), line_short c l (own_readable c number e (Some e.frames) small h frames))

events_short : (c : Counted) (number : ℕ) (es : List Event) → number + length es ≤ 1000 → EachCanBeRead c es → length (events_text c number es) ≤ 2050 * length es
events_short c number [] few h = omega arith
events_short c number (e ∷ es) few h =
    let count : length (events_text c number (e ∷ es)) ≡ length (event_text c number e) + length (events_text c (number + 1) es) = length-append (event_text c number e) (events_text c (number + 1) es) in
    let own : length (event_text c number e) ≤ 2050 = event_short_of c number e e.from refl (omega (arith, few)) h.0 in
    omega (arith, count, own, events_short c (number + 1) es (omega (arith, few)) h.1)

head_short : (drop_frame : Bool) → length (codes "TITLE: CUT\n" ++ counting_text drop_frame) ≤ 31
head_short true = omega arith
head_short false = omega arith

pub list_short : (c : Counted) (es : List Event) → length es ≤ 999 → EachCanBeRead c es → length (list_text c es) ≤ MAX_LIST
list_short c es few h =
    let most : MAX_LIST ≡ 33554432 = refl in
    let count : length (list_text c es) ≡ length (codes "TITLE: CUT\n" ++ counting_text c.drop_frame) + length (events_text c 1 es) = length-append (head_text c) (events_text c 1 es) in
    omega (arith, most, count, few, head_short c.drop_frame, events_short c 1 es (omega (arith, few)) h)
