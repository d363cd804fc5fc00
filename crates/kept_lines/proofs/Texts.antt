-- The texts of steps that are done are short, and have no line feed.
use Rattle.std.proofs.Common.{◌≡◌, ℕ, ◌+◌, ◌<◌, ◌≤◌, ◌^◌, Bool, true, false, not, List, [], ◌∷◌, ◌++◌, All, None, length, refl, sym, ◌∙◌, arith, length-append, codes}
use Rattle.std.specs.Char.{is_ascii_digit}
use Rattle.std.specs.Fmt.{decimal}
use Rattle.std.specs.List.{list_all}
use Rattle.std.proofs.lemmas.Bool.{and_parts}
use Rattle.std.proofs.lemmas.Bool.Decides.{nat_tests}
use Rattle.std.proofs.lemmas.List.Elements.{All-nil, All-cons, All-head, All-tail}
use Rattle.std.proofs.lemmas.List.Folds.{list_all-append}
use Rattle.line_words.specs.Lines.{is_lf}
use Rattle.composables.specs.declared.calls.Link3.{Link3}
use Rattle.composables.specs.declared.media.Table.{Table}
use Rattle.composables.specs.TrackSets.{tracks_in}
use Rattle.edit_calls.specs.declared.asks.Call.{Call}
use Rattle.edit_calls.specs.declared.asks.Call.TheVariants as call
use Rattle.edit_apply.specs.Apply.{lowest, refuse_names_of}
use Rattle.line_table.specs.CallTexts.{call_text_of, deed_text_of, linked, numbers_after, step_text_of, tracks_text, IsSmall, IsWritten}
use Rattle.journal_text.specs.JournalFaults.{HasNoLineFeed}
use Rattle.take_back.specs.declared.step.Deed.{Deed}
use Rattle.take_back.specs.declared.step.Deed.TheVariants.{Do, Back}
use Rattle.line_table.proofs.CallLengths.{deed_length}
use Rattle.journal_text.proofs.EntryTexts.{entry_plain, is_plain, number_plain}
use Rattle.line_table.proofs.WrittenParts.{are_digits, length-numbers_after, length-tracks_text, tracks_small}
use Rattle.kept_lines.specs.Lines.{DoneStepsFit}
use Rattle.kept_lines.specs.Widths.{DeedHasWidths, HasWidths}
use Rattle.kept_lines.proofs.Applied.{applied, IsKnown}
use Rattle.kept_lines.proofs.Naming.{own_of_many, own_track}

-- ---- no line feed among these bytes

pub joined : (a b : List ℕ) → is_plain a ≡ true → is_plain b ≡ true → is_plain (a ++ b) ≡ true
joined a b h k = rw (list_all-append (λ byte. not (is_lf byte)) a b, h, k) refl

front_of : (a b : List ℕ) → is_plain (a ++ b) ≡ true → is_plain a ≡ true
front_of a b h = (and_parts (is_plain a) (is_plain b) (sym (list_all-append (λ byte. not (is_lf byte)) a b) ∙ h)).0

back_of : (a b : List ℕ) → is_plain (a ++ b) ≡ true → is_plain b ≡ true
back_of a b h = (and_parts (is_plain a) (is_plain b) (sym (list_all-append (λ byte. not (is_lf byte)) a b) ∙ h)).1

numbers_plain : (lead ns : List ℕ) → is_plain lead ≡ true → All IsSmall ns → is_plain (numbers_after lead ns) ≡ true
numbers_plain lead [] h small = refl
numbers_plain lead (n ∷ ns) h small =
    joined (lead ++ decimal n) (numbers_after (codes ",") ns) (joined lead (decimal n) h (number_plain n (All-head IsSmall n ns small)))
    (numbers_plain (codes ",") ns refl (All-tail IsSmall n ns small))

not_feed : (b : Bool) → not b ≡ true → b ≡ false
not_feed true h = cc
not_feed false h = refl

none_feeds : (text : List ℕ) → is_plain text ≡ true → HasNoLineFeed text
none_feeds [] h = All-nil (λ byte. is_lf byte ≡ false)
none_feeds (byte ∷ text) h =
    let both = and_parts (not (is_lf byte)) (is_plain text) h in
    All-cons (λ byte. is_lf byte ≡ false) byte text (not_feed (is_lf byte) both.0) (none_feeds text both.1)

-- ---- calls that can be written

abbrev pub IsFit : Call → Type 0
IsFit c = (length (call_text_of c) ≤ 454) × (is_plain (call_text_of c) ≡ true)

written_plain : (c : Call) → IsWritten c → is_plain (call_text_of c) ≡ true
written_plain c w =
    back_of (decimal 0 ++ codes " " ++ decimal 0 ++ codes " ") (call_text_of c)
    (entry_plain (record { station = 0; number = 0; call = record { by = 0; act = Do c } }) (record { station = omega arith; number = omega arith; by = refl; call = w }))

written_fits : (c : Call) → IsWritten c → IsFit c
written_fits c w = (deed_length (Do c) w, written_plain c w)

-- a link, of which only so much is asked that it has not too many items
link_plain : (c : Link3) → 0 < c.tracks → IsSmall c.tracks → All IsSmall c.items → is_plain (call_text_of (call.Link3 c)) ≡ true
link_plain c some small items =
    let even : Call = call.Link3 (record { tracks = c.tracks; items = tracks_in c.tracks }) in
    let whole = written_plain even ((some, small), tracks_small c.tracks, refl) in
    joined (codes "link " ++ tracks_text c.tracks ++ codes " ") (numbers_after [] c.items)
    (front_of (codes "link " ++ tracks_text c.tracks ++ codes " ") (numbers_after [] (tracks_in c.tracks)) whole) (numbers_plain [] c.items refl items)

link_length : (c : Link3) → All IsSmall c.items → length c.items ≤ 32 → length (call_text_of (call.Link3 c)) ≤ 454
link_length c items few =
    omega (arith, length-all (tracks_text c.tracks) (numbers_after [] c.items), length-tracks_text c.tracks, length-numbers_after c.items items, few)
  where
    length-all : (s i : List ℕ) → length (codes "link " ++ s ++ codes " " ++ i) ≡ length s + length i + 6
    length-all s i = simp length-append (omega arith)

-- a call that is not refused for its tracks
pub fits : (table : Table) (c : Call) → HasWidths c → refuse_names_of table c ≡ None → linked c ≤ 32 → IsFit c
fits table (call.Overwrite c) (at, what, from, len) h few = written_fits (call.Overwrite c) (own_track table c.track h, at, what, from, len)
fits table (call.Insert c) (tracks, at, what, from, len) h few =
    let own = own_of_many table c.tracks c.track h in written_fits (call.Insert c) ((own.0, tracks), own.1, at, what, from, len)
fits table (call.Remove c) item h few = written_fits (call.Remove c) (own_track table c.track h, item)
fits table (call.Extract c) (tracks, item) h few =
    let own = own_of_many table c.tracks c.track h in written_fits (call.Extract c) ((own.0, tracks), own.1, item)
fits table (call.Slice c) at h few = written_fits (call.Slice c) (own_track table c.track h, at)
fits table (call.Dissolve c) (at, a, b) h few = written_fits (call.Dissolve c) (own_track table c.track h, at, a, b)
fits table (call.Undissolve c) at h few = written_fits (call.Undissolve c) (own_track table c.track h, at)
fits table (call.Trim c) (item, by) h few = written_fits (call.Trim c) (own_track table c.track h, item, by)
fits table (call.Slip c) (tracks, item, by) h few =
    let own = own_of_many table c.tracks c.track h in written_fits (call.Slip c) ((own.0, tracks), own.1, item, by)
fits table (call.Roll c) (at, by) h few = written_fits (call.Roll c) (own_track table c.track h, at, by)
fits table (call.Slide c) (tracks, item, by) h few =
    let own = own_of_many table c.tracks c.track h in written_fits (call.Slide c) ((own.0, tracks), own.1, item, by)
fits table (call.Fill c) (at, what, from, len) h few = written_fits (call.Fill c) (own_track table c.track h, at, what, from, len)
fits table (call.Ripple c) (tracks, item, by) h few =
    let own = own_of_many table c.tracks c.track h in written_fits (call.Ripple c) ((own.0, tracks), own.1, item, by)
fits table (call.Link3 c) (tracks, items) h few =
    let own = own_of_many table c.tracks (lowest (tracks_in c.tracks)) h in
    (link_length c items few, link_plain c own.0 tracks items)
fits table (call.Unlink c) item h few = written_fits (call.Unlink c) (own_track table c.track h, item)

-- ---- steps that are done

abbrev pub DeedFits : Deed Call → Type 0
DeedFits d = (length (deed_text_of d) ≤ 454) × (is_plain (deed_text_of d) ≡ true)

back_length : (tracks : ℕ) → length (codes "back " ++ tracks_text tracks) ≤ 454
back_length tracks = omega (arith, length-append (codes "back ") (tracks_text tracks), length-tracks_text tracks)

pub deed_fits : (table : Table) (d : Deed Call) → DeedHasWidths d → IsKnown table d → DeedFits d
deed_fits table (Do c) widths known = fits table c widths known.0 known.1
deed_fits table (Back tracks) widths known =
    (back_length tracks, joined (codes "back ") (tracks_text tracks) refl (numbers_plain [] (tracks_in tracks) refl (tracks_small tracks)))

pub done_steps_fit : DoneStepsFit
done_steps_fit table tracks s after done h widths =
    let fit = deed_fits table s.act widths (applied table tracks s (after, done) h) in
    record { most = fit.0; one = none_feeds (step_text_of s) fit.1 }
