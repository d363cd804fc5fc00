-- The text of an entry has no line feed, and tells its entry.
use Rattle.std.proofs.Common.{◌≡◌, ℕ, suc, ℤ, pos, negsuc, FitsSigned, ◌<◌, ◌^◌, List, [], ◌∷◌, ◌++◌, Bool, true, false, not, Option, Some, None, Ok, length, nat_le, inl, inr, refl, sym, ap, ◌∙◌, arith, append_assoc, codes}
use Rattle.std.specs.Char.{is_ascii_digit}
use Rattle.std.specs.Fmt.{decimal, signed_decimal}
use Rattle.std.specs.Int.{w32}
use Rattle.std.specs.List.{list_all, flat_map, All}
use Rattle.std.proofs.lemmas.Bool.{and_parts, le-leb}
use Rattle.std.proofs.lemmas.Bool.Decides.{nat_tests}
use Rattle.std.proofs.lemmas.List.Elements.{All-head, All-tail}
use Rattle.std.proofs.lemmas.List.Folds.{list_all-append}
use Rattle.line_words.specs.Blanks.{words_of}
use Rattle.line_words.specs.Digits.{number_of}
use Rattle.line_words.specs.Lines.{is_lf}
use Rattle.line_words.proofs.DigitLaws.{number_of-decimal}
use Rattle.line_words.proofs.WordLaws.{words_of-word}
use Rattle.frame_meaning.specs.declared.cells.What.{What}
use Rattle.frame_meaning.specs.declared.cells.What.TheVariants.{Media, Nest}
use Rattle.composables.specs.declared.calls.End.{End}
use Rattle.composables.specs.declared.calls.End.TheVariants.{Head, Tail}
use Rattle.composables.specs.declared.calls.FillLength.{FillLength}
use Rattle.composables.specs.declared.calls.FillLength.TheVariants.{Source, Sequence}
use Rattle.composables.specs.TrackSets.{tracks_in}
use Rattle.edit_calls.specs.declared.asks.Call.{Call}
use Rattle.edit_calls.specs.declared.asks.Call.TheVariants as call
use Rattle.room_core.specs.declared.entry.Entry.{Entry}
use Rattle.take_back.specs.Steps.{asked_by}
use Rattle.take_back.specs.declared.step.Deed.{Deed}
use Rattle.take_back.specs.declared.step.Deed.TheVariants.{Do, Back}
use Rattle.take_back.specs.declared.step.Step.{Step}
use Rattle.line_table.specs.declared.lines.Line.TheVariants.{Edit}
use Rattle.protocol_parts.specs.declared.line_fault.LineFault.TheVariants.{B5}
use Rattle.protocol_parts.specs.Things.{what_text}
use Rattle.line_table.specs.CallTexts.{keep_text, numbers_after, tracks_text, frames_text, length_text, call_text_of, deed_text_of, step_text_of, IsSmall, IsSmallWhat, IsSmallLength, IsWritten, IsWrittenDeed, IsWrittenStep}
use Rattle.journal_text.specs.JournalFaults.{HasNoEntry}
use Rattle.journal_text.specs.Journals.{entry_text, entry_line, count_text, count_line, HasLine}
use Rattle.journal_text.specs.LooseEntries.{loose_entry}
use Rattle.line_table.specs.Reading.{line_of_words}
use Rattle.line_table.specs.Table.{end_word}
use Rattle.line_table.proofs.CallLengths.{low}
use Rattle.line_table.proofs.ReadParts.{chosen, err_ok}
use Rattle.line_table.proofs.WrittenCalls.{written_step}
use Rattle.line_table.proofs.WrittenParts.{are_digits, back_small, delta_small, tracks_small, IsWord-decimal}

-- no byte is a line feed
abbrev pub is_plain : List ℕ → Bool
is_plain bytes = list_all (λ byte. not (is_lf byte)) bytes

digit_plain : (byte : ℕ) → is_ascii_digit byte ≡ true → not (is_lf byte) ≡ true
digit_plain byte h = grind (arith, nat_tests)

digits_plain : (word : List ℕ) → list_all is_ascii_digit word ≡ true → is_plain word ≡ true
digits_plain [] h = refl
digits_plain (byte ∷ word) h =
    let both = and_parts (is_ascii_digit byte) (list_all is_ascii_digit word) h in
    let here = digit_plain byte both.0 in
    let more = digits_plain word both.1 in
    rw (here, more) refl

pub number_plain : (n : ℕ) → n < 2 ^ 32 → is_plain (decimal n) ≡ true
number_plain n h = digits_plain (decimal n) (are_digits n h)

what_plain : (w : What) → IsSmallWhat w → is_plain (what_text w) ≡ true
what_plain (Media m) h = number_plain m h
what_plain (Nest n) h = number_plain n h

end_plain : (end : End) → is_plain (end_word end) ≡ true
end_plain Head = refl
end_plain Tail = refl

pub both_plain : (a b : List ℕ) → is_plain a ≡ true → is_plain b ≡ true → is_plain (a ++ b) ≡ true
both_plain a b h k = rw (list_all-append (λ byte. not (is_lf byte)) a b, h, k) refl

delta_plain : (z : ℤ) → FitsSigned w32 z → is_plain (signed_decimal z) ≡ true
delta_plain (pos n) h = number_plain n (delta_small n h)
delta_plain (negsuc n) h = both_plain (codes "-") (decimal (suc n)) refl (number_plain (suc n) (back_small n h))

length_plain : (l : FillLength) → IsSmallLength l → is_plain (length_text l) ≡ true
length_plain (Source n) h = both_plain (codes "source ") (decimal n) refl (number_plain n h)
length_plain Sequence h = refl

keep_plain : (keep : Bool) → is_plain (keep_text keep) ≡ true
keep_plain true = refl
keep_plain false = refl

-- a text and whether dissolves are kept
kept_plain : (a : List ℕ) (keep : Bool) → is_plain a ≡ true → is_plain (a ++ keep_text keep) ≡ true
kept_plain a keep h = both_plain a (keep_text keep) h (keep_plain keep)

numbers_plain : (lead ns : List ℕ) → is_plain lead ≡ true → All IsSmall ns → is_plain (numbers_after lead ns) ≡ true
numbers_plain lead [] first h = refl
numbers_plain lead (n ∷ ns) first h =
    let here = All-head IsSmall n ns h in
    both_plain (lead ++ decimal n) (numbers_after (codes ",") ns) (both_plain lead (decimal n) first (number_plain n here))
    (numbers_plain (codes ",") ns refl (All-tail IsSmall n ns h))

tracks_plain : (set : ℕ) → is_plain (tracks_text set) ≡ true
tracks_plain set = numbers_plain [] (tracks_in set) refl (tracks_small set)

-- a text, a space, and more
pub then_plain : (a b : List ℕ) → is_plain a ≡ true → is_plain b ≡ true → is_plain (a ++ codes " " ++ b) ≡ true
then_plain a b h k = both_plain (a ++ codes " ") b (both_plain a (codes " ") h refl) k

frames_plain : (what : What) (from len : ℕ) → IsSmallWhat what → from < 2 ^ 32 → len < 2 ^ 32 → is_plain (frames_text what from len) ≡ true
frames_plain what from len w f n =
    then_plain (what_text what ++ codes " " ++ decimal from) (decimal len) (then_plain (what_text what) (decimal from) (what_plain what w) (number_plain from f)) (number_plain len n)

call_plain : (c : Call) → IsWritten c → is_plain (call_text_of c) ≡ true
call_plain (call.Overwrite c) (track, at, what, from, len) =
    let places = then_plain (codes "overwrite " ++ decimal c.track) (decimal c.at) (number_plain c.track (low c.track track)) (number_plain c.at at) in
    kept_plain (codes "overwrite " ++ decimal c.track ++ codes " " ++ decimal c.at ++ codes " " ++ frames_text c.what c.from c.len) c.keep
    (then_plain (codes "overwrite " ++ decimal c.track ++ codes " " ++ decimal c.at) (frames_text c.what c.from c.len) places (frames_plain c.what c.from c.len what from len))
call_plain (call.Insert c) (tracks, track, at, what, from, len) =
    let own = then_plain (codes "insert " ++ tracks_text c.tracks) (decimal c.track) (tracks_plain c.tracks) (number_plain c.track (low c.track track)) in
    let places = then_plain (codes "insert " ++ tracks_text c.tracks ++ codes " " ++ decimal c.track) (decimal c.at) own (number_plain c.at at) in
    kept_plain (codes "insert " ++ tracks_text c.tracks ++ codes " " ++ decimal c.track ++ codes " " ++ decimal c.at ++ codes " " ++ frames_text c.what c.from c.len) c.keep
    (then_plain (codes "insert " ++ tracks_text c.tracks ++ codes " " ++ decimal c.track ++ codes " " ++ decimal c.at) (frames_text c.what c.from c.len) places
    (frames_plain c.what c.from c.len what from len))
call_plain (call.Remove c) (track, item) =
    kept_plain (codes "remove " ++ decimal c.track ++ codes " " ++ decimal c.item) c.keep
    (then_plain (codes "remove " ++ decimal c.track) (decimal c.item) (number_plain c.track (low c.track track)) (number_plain c.item item))
call_plain (call.Extract c) (tracks, track, item) =
    let own = then_plain (codes "extract " ++ tracks_text c.tracks) (decimal c.track) (tracks_plain c.tracks) (number_plain c.track (low c.track track)) in
    kept_plain (codes "extract " ++ tracks_text c.tracks ++ codes " " ++ decimal c.track ++ codes " " ++ decimal c.item) c.keep
    (then_plain (codes "extract " ++ tracks_text c.tracks ++ codes " " ++ decimal c.track) (decimal c.item) own (number_plain c.item item))
call_plain (call.Slice c) (track, at) =
    kept_plain (codes "slice " ++ decimal c.track ++ codes " " ++ decimal c.at) c.keep
    (then_plain (codes "slice " ++ decimal c.track) (decimal c.at) (number_plain c.track (low c.track track)) (number_plain c.at at))
call_plain (call.Dissolve c) (track, at, a, b) =
    let places = then_plain (codes "dissolve " ++ decimal c.track) (decimal c.at) (number_plain c.track (low c.track track)) (number_plain c.at at) in
    let before = then_plain (codes "dissolve " ++ decimal c.track ++ codes " " ++ decimal c.at) (decimal c.a) places (number_plain c.a a) in
    then_plain (codes "dissolve " ++ decimal c.track ++ codes " " ++ decimal c.at ++ codes " " ++ decimal c.a) (decimal c.b) before (number_plain c.b b)
call_plain (call.Undissolve c) (track, at) =
    then_plain (codes "undissolve " ++ decimal c.track) (decimal c.at) (number_plain c.track (low c.track track)) (number_plain c.at at)
call_plain (call.Trim c) (track, item, by) =
    let items = then_plain (codes "trim " ++ decimal c.track) (decimal c.item) (number_plain c.track (low c.track track)) (number_plain c.item item) in
    let ends = then_plain (codes "trim " ++ decimal c.track ++ codes " " ++ decimal c.item) (end_word c.end) items (end_plain c.end) in
    then_plain (codes "trim " ++ decimal c.track ++ codes " " ++ decimal c.item ++ codes " " ++ end_word c.end) (signed_decimal c.by) ends (delta_plain c.by by)
call_plain (call.Slip c) (tracks, track, item, by) =
    let own = then_plain (codes "slip " ++ tracks_text c.tracks) (decimal c.track) (tracks_plain c.tracks) (number_plain c.track (low c.track track)) in
    let items = then_plain (codes "slip " ++ tracks_text c.tracks ++ codes " " ++ decimal c.track) (decimal c.item) own (number_plain c.item item) in
    then_plain (codes "slip " ++ tracks_text c.tracks ++ codes " " ++ decimal c.track ++ codes " " ++ decimal c.item) (signed_decimal c.by) items (delta_plain c.by by)
call_plain (call.Roll c) (track, at, by) =
    let places = then_plain (codes "roll " ++ decimal c.track) (decimal c.at) (number_plain c.track (low c.track track)) (number_plain c.at at) in
    then_plain (codes "roll " ++ decimal c.track ++ codes " " ++ decimal c.at) (signed_decimal c.by) places (delta_plain c.by by)
call_plain (call.Slide c) (tracks, track, item, by) =
    let own = then_plain (codes "slide " ++ tracks_text c.tracks) (decimal c.track) (tracks_plain c.tracks) (number_plain c.track (low c.track track)) in
    let items = then_plain (codes "slide " ++ tracks_text c.tracks ++ codes " " ++ decimal c.track) (decimal c.item) own (number_plain c.item item) in
    then_plain (codes "slide " ++ tracks_text c.tracks ++ codes " " ++ decimal c.track ++ codes " " ++ decimal c.item) (signed_decimal c.by) items (delta_plain c.by by)
call_plain (call.Fill c) (track, at, what, from, len) =
    let places = then_plain (codes "fill " ++ decimal c.track) (decimal c.at) (number_plain c.track (low c.track track)) (number_plain c.at at) in
    let things = then_plain (codes "fill " ++ decimal c.track ++ codes " " ++ decimal c.at) (what_text c.what) places (what_plain c.what what) in
    let sources =
    then_plain (codes "fill " ++ decimal c.track ++ codes " " ++ decimal c.at ++ codes " " ++ what_text c.what) (decimal c.from) things (number_plain c.from from) in
    kept_plain (codes "fill " ++ decimal c.track ++ codes " " ++ decimal c.at ++ codes " " ++ what_text c.what ++ codes " " ++ decimal c.from ++ codes " " ++ length_text c.length) c.keep
    (then_plain (codes "fill " ++ decimal c.track ++ codes " " ++ decimal c.at ++ codes " " ++ what_text c.what ++ codes " " ++ decimal c.from) (length_text c.length) sources
    (length_plain c.length len))
call_plain (call.Ripple c) (tracks, track, item, by) =
    let own = then_plain (codes "ripple " ++ tracks_text c.tracks) (decimal c.track) (tracks_plain c.tracks) (number_plain c.track (low c.track track)) in
    let items = then_plain (codes "ripple " ++ tracks_text c.tracks ++ codes " " ++ decimal c.track) (decimal c.item) own (number_plain c.item item) in
    let ends =
    then_plain (codes "ripple " ++ tracks_text c.tracks ++ codes " " ++ decimal c.track ++ codes " " ++ decimal c.item) (end_word c.end) items (end_plain c.end) in
    then_plain (codes "ripple " ++ tracks_text c.tracks ++ codes " " ++ decimal c.track ++ codes " " ++ decimal c.item ++ codes " " ++ end_word c.end) (signed_decimal c.by) ends
    (delta_plain c.by by)
call_plain (call.Link3 c) (tracks, items, even) =
    then_plain (codes "link " ++ tracks_text c.tracks) (numbers_after [] c.items) (tracks_plain c.tracks) (numbers_plain [] c.items refl items)
call_plain (call.Unlink c) (track, item) =
    then_plain (codes "unlink " ++ decimal c.track) (decimal c.item) (number_plain c.track (low c.track track)) (number_plain c.item item)

deed_plain : (a : Deed Call) → IsWrittenDeed a → is_plain (deed_text_of a) ≡ true
deed_plain (Do c) h = call_plain c h
deed_plain (Back tracks) h = both_plain (codes "back ") (tracks_text tracks) refl (tracks_plain tracks)

step_plain : (s : Step Call) → IsWrittenStep s → is_plain (step_text_of s) ≡ true
step_plain s h = deed_plain s.act h

pub entry_plain : (e : Entry (Step Call)) → HasLine e → is_plain (entry_text e) ≡ true
entry_plain e h =
    let numbers = then_plain (decimal e.station) (decimal e.number) (number_plain e.station (omega (arith, h.station))) (number_plain e.number h.number) in
    then_plain (decimal e.station ++ codes " " ++ decimal e.number) (step_text_of e.call) numbers (step_plain e.call h.call)

pub count_plain : (n : ℕ) → n < 2 ^ 32 → is_plain (count_text n) ≡ true
count_plain n h = number_plain n h

-- what stands before the first line feed, and what stands behind it
pub cut_once : (a b x y : List ℕ) → is_plain a ≡ true → is_plain b ≡ true → a ++ 10 ∷ x ≡ b ++ 10 ∷ y → (a ≡ b) × (x ≡ y)
cut_once [] [] x y h k e = (refl, cc)
cut_once [] (c ∷ b) x y h k e =
    let same : 10 ≡ c = cc in
    let test = (and_parts (not (is_lf c)) (is_plain b) k).0 in
    let wrong = rw (← same) at test in
    absurd cc
cut_once (c ∷ a) [] x y h k e =
    let same : c ≡ 10 = cc in
    let test = (and_parts (not (is_lf c)) (is_plain a) h).0 in
    let wrong = rw same at test in
    absurd cc
cut_once (c ∷ a) (d ∷ b) x y h k e =
    let head : c ≡ d = cc in
    let tails : a ++ 10 ∷ x ≡ b ++ 10 ∷ y = cc in
    let more = cut_once a b x y (and_parts (not (is_lf c)) (is_plain a) h).1 (and_parts (not (is_lf d)) (is_plain b) k).1 tails in
    let rest = more.0 in
    (cc, more.1)

-- the step of a text by the words of the text alone
written_words : (place_at : List ℕ → Option ℕ) (s : Step Call) → IsWrittenStep s → line_of_words place_at (words_of (step_text_of s)) ≡ Ok (Edit (asked_by 0 s))
written_words place_at s h = elim (chosen (nat_le (length (step_text_of s)) 1024) _ _ (Ok (Edit (asked_by 0 s))) (written_step place_at s h)) [
  | inl short ↦ short.1
  | inr long ↦ absurd (err_ok B5 (Edit (asked_by 0 s)) long.1)
]

entry_parts : (s n c : List ℕ) → s ++ codes " " ++ n ++ codes " " ++ c ≡ s ++ 32 ∷ (n ++ 32 ∷ c)
entry_parts s n c = simp append_assoc refl

-- its words: the station, the number, and those of its step
pub entry_words : (e : Entry (Step Call)) → HasLine e → words_of (entry_text e) ≡ decimal e.station ∷ decimal e.number ∷ words_of (step_text_of e.call)
entry_words e h =
    let parts = ap words_of (entry_parts (decimal e.station) (decimal e.number) (step_text_of e.call)) in
    let station = words_of-word (decimal e.station) 32 (decimal e.number ++ 32 ∷ step_text_of e.call) (IsWord-decimal e.station (omega (arith, h.station))) refl in
    let number = words_of-word (decimal e.number) 32 (step_text_of e.call) (IsWord-decimal e.number h.number) refl in
    parts ∙ station ∙ ap (λ words. decimal e.station ∷ words) number

-- the same entry, with a step that this station asks for
abbrev of_station : Entry (Step Call) → ℕ → Entry (Step Call)
of_station e n = record { station = e.station; number = e.number; call = asked_by n e.call }

as_asked : (e : Entry (Step Call)) → e.call.by ≡ e.station → of_station e e.station ≡ e
as_asked e by = ap (of_station e) (sym by)

-- an entry is read from its text
pub entry_told : (place_at : List ℕ → Option ℕ) (e : Entry (Step Call)) → HasLine e → loose_entry place_at (words_of (entry_text e)) ≡ Some e
entry_told place_at e h =
    let words = entry_words e h in
    let station = number_of-decimal e.station (omega (arith, h.station)) in
    let number = number_of-decimal e.number h.number in
    let call = written_words place_at e.call h.call in
    let low = le-leb e.station 15 h.station in
    rw (words, station, number, call, low) (ap Some (as_asked e h.by))

pub none_named : List ℕ → Option ℕ
none_named word = None

same_entry : (e f : Entry (Step Call)) → HasLine e → HasLine f → entry_text e ≡ entry_text f → e ≡ f
same_entry e f h k same =
    let first = entry_told none_named e h in
    let second = entry_told none_named f k in
    let words = ap (λ text. loose_entry none_named (words_of text)) same in
    let both : Some e ≡ Some f = sym first ∙ words ∙ second in
    cc

-- two texts with a line at the front
pub line_parts : (text rest : List ℕ) → (text ++ codes "\n") ++ rest ≡ text ++ 10 ∷ rest
line_parts text rest = append_assoc text (codes "\n") rest

pub entry_once : (e f : Entry (Step Call)) (x y : List ℕ) → HasLine e → HasLine f → entry_line e ++ x ≡ entry_line f ++ y → (e ≡ f) × (x ≡ y)
entry_once e f x y h k same =
    let cut = cut_once (entry_text e) (entry_text f) x y (entry_plain e h) (entry_plain f k) (sym (line_parts (entry_text e) x) ∙ same ∙ line_parts (entry_text f) y) in
    (same_entry e f h k cut.0, cut.1)

same_count : (m n : ℕ) → m < 2 ^ 32 → n < 2 ^ 32 → decimal m ≡ decimal n → m ≡ n
same_count m n h k same =
    let first = number_of-decimal m h in
    let second = number_of-decimal n k in
    let read = ap number_of same in
    cc

pub count_once : (m n : ℕ) (x y : List ℕ) → m < 2 ^ 32 → n < 2 ^ 32 → count_line m ++ x ≡ count_line n ++ y → (m ≡ n) × (x ≡ y)
count_once m n x y h k same =
    let cut = cut_once (count_text m) (count_text n) x y (count_plain m h) (count_plain n k) (sym (line_parts (count_text m) x) ∙ same ∙ line_parts (count_text n) y) in
    let texts = cut.0 in
    let digits : decimal m ≡ decimal n = cc in
    (same_count m n h k digits, cut.1)

-- entries up to where no line of an entry stands
pub entries_once : (es fs : List (Entry (Step Call))) (x y : List ℕ) → All HasLine es → All HasLine fs → HasNoEntry x → HasNoEntry y
    → flat_map entry_line es ++ x ≡ flat_map entry_line fs ++ y → (es ≡ fs) × (x ≡ y)
entries_once [] [] x y h k s t same = (refl, same)
entries_once [] (f ∷ fs) x y h k s t same =
    absurd (s f (flat_map entry_line fs ++ y) (All-head HasLine f fs k) (same ∙ append_assoc (entry_line f) (flat_map entry_line fs) y))
entries_once (e ∷ es) [] x y h k s t same =
    absurd (t e (flat_map entry_line es ++ x) (All-head HasLine e es h) (sym same ∙ append_assoc (entry_line e) (flat_map entry_line es) x))
entries_once (e ∷ es) (f ∷ fs) x y h k s t same =
    let step = entry_once e f (flat_map entry_line es ++ x) (flat_map entry_line fs ++ y) (All-head HasLine e es h) (All-head HasLine f fs k)
    (sym (append_assoc (entry_line e) (flat_map entry_line es) x) ∙ same ∙ append_assoc (entry_line f) (flat_map entry_line fs) y) in
    let more = entries_once es fs x y (All-tail HasLine e es h) (All-tail HasLine f fs k) s t step.1 in
    let head = step.0 in
    let tail = more.0 in
    (cc, more.1)
