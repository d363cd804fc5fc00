-- How long the line of an entry is, and the text of a journal.
use Rattle.std.proofs.Common.{◌≡◌, ℕ, ◌+◌, ◌*◌, ◌<◌, ◌≤◌, List, [], ◌∷◌, ◌++◌, Bool, true, false, not, All, length, refl, arith, length-append, codes}
use Rattle.std.specs.Fmt.{decimal}
use Rattle.std.specs.List.{flat_map}
use Rattle.std.proofs.lemmas.Bool.{and_parts}
use Rattle.std.proofs.lemmas.Fmt.{length-decimal-le}
use Rattle.std.proofs.lemmas.List.Elements.{All-nil, All-cons, All-head, All-tail}
use Rattle.line_words.specs.Lines.{is_lf}
use Rattle.edit_calls.specs.declared.asks.Call.{Call}
use Rattle.room_core.specs.declared.entry.Entry.{Entry}
use Rattle.take_back.specs.declared.step.Step.{Step}
use Rattle.line_table.specs.CallTexts.{step_text_of}
use Rattle.journal_text.specs.JournalFaults.{HasNoLineFeed}
use Rattle.journal_text.specs.JournalMeanings.{EntriesFitLines, JournalsFit}
use Rattle.journal_text.specs.Journals.{count_line, entry_line, entry_text, HasLine}
use Rattle.line_table.proofs.CallLengths.{step_length}
use Rattle.journal_text.proofs.EntryTexts.{entry_plain, is_plain}
use Rattle.line_table.proofs.WrittenParts.{IsWord-decimal, length-decimal}

-- ---- an entry

pub entry_length : (e : Entry (Step Call)) → HasLine e → length (entry_line e) ≤ 480
entry_length e h =
    let station = length-decimal e.station (omega (arith, h.station)) in
    let number = length-decimal e.number h.number in
    omega (arith, length-all (decimal e.station) (decimal e.number) (step_text_of e.call), station, number, step_length e.call h.call)
  where
    length-all : (s n c : List ℕ) → length ((s ++ codes " " ++ n ++ codes " " ++ c) ++ codes "\n") ≡ length s + length n + length c + 3
    length-all s n c = simp length-append (omega arith)

more : (a b : List ℕ) → 0 < length a → 0 < length (a ++ b)
more a b some = omega (arith, some, length-append a b)

entry_some : (e : Entry (Step Call)) → HasLine e → 0 < length (entry_text e)
entry_some e h =
    let station = more (decimal e.station) (codes " ") (IsWord-decimal e.station (omega (arith, h.station))).filled in
    let number = more (decimal e.station ++ codes " ") (decimal e.number) station in
    more (decimal e.station ++ codes " " ++ decimal e.number ++ codes " ") (step_text_of e.call) (more (decimal e.station ++ codes " " ++ decimal e.number) (codes " ") number)

not_feed : (b : Bool) → not b ≡ true → b ≡ false
not_feed true h = cc
not_feed false h = refl

pub none_feeds : (text : List ℕ) → is_plain text ≡ true → HasNoLineFeed text
none_feeds [] h = All-nil (λ byte. is_lf byte ≡ false)
none_feeds (byte ∷ text) h =
    let both = and_parts (not (is_lf byte)) (is_plain text) h in
    All-cons (λ byte. is_lf byte ≡ false) byte text (not_feed (is_lf byte) both.0) (none_feeds text both.1)

pub fit_lines : EntriesFitLines
fit_lines e h = record {
  some = entry_some e h;
  most = omega (arith, entry_length e h, length-append (entry_text e) (codes "\n"));
  one = none_feeds (entry_text e) (entry_plain e h);
}

-- ---- a journal

lines_length : (es : List (Entry (Step Call))) → All HasLine es → length (flat_map entry_line es) ≤ 480 * length es
lines_length [] h = omega arith
lines_length (e ∷ es) h =
    let first = entry_length e (All-head HasLine e es h) in
    let rest = lines_length es (All-tail HasLine e es h) in
    omega (arith, first, rest, length-append (entry_line e) (flat_map entry_line es))

count_length : (n : ℕ) → n ≤ 100000 → length (count_line n) ≤ 29
count_length n h = omega (arith, length-decimal-le 6 n (omega arith) (omega arith) (omega (arith, h)), length-all (decimal n))
  where
    length-all : (d : List ℕ) → length ((codes "journal " ++ d) ++ codes "\n") ≡ length d + 9
    length-all d = simp length-append (omega arith)

pub journals_fit : JournalsFit
journals_fit es h =
    let count = count_length (length es) h.within in
    let lines = lines_length es h.lines in
    omega (arith, h.within, count, lines, length-append (count_line (length es)) (flat_map entry_line es))
