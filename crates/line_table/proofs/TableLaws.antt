-- What is read of a line is spelled there, and what is spelled there is read.
use Rattle.std.proofs.Common.{◌≡◌, ℕ, Bool, true, false, Result, ◌∙◌, List, [], ◌∷◌, Option, Some, None, Ok, length, nat_eq, nat_le, inl, inr, refl, ap, sym, if◌then◌else◌, codes}
use Rattle.std.proofs.lemmas.Bool.{eqb-true, eq-eqb, leb-true, le-leb}
use Rattle.std.proofs.lemmas.Slice.Eq.{bytes_eq-Decides}
use Rattle.std.specs.Str.{bytes_eq}
use Rattle.line_words.specs.Blanks.{words_of}
use Rattle.std.specs.List.{slice_split}
use Rattle.composables.specs.TrackSets.{tracks_in}
use Rattle.frame_meaning.specs.declared.cells.What.{What}
use Rattle.composables.specs.declared.calls.FillLength.{FillLength}
use Rattle.composables.specs.declared.calls.FillLength.TheVariants.{Source, Sequence}
use Rattle.edit_calls.specs.declared.asks.Call.{Call}
use Rattle.edit_calls.specs.declared.asks.Call.TheVariants as call
use Rattle.edit_calls.specs.declared.asks.Ask.TheVariants as ask
use Rattle.line_table.specs.declared.lines.Line.{Line}
use Rattle.line_table.specs.declared.lines.Line.TheVariants.{Edit, Ask, Point, Otio, News}
use Rattle.protocol_parts.specs.declared.line_fault.LineFault.{LineFault}
use Rattle.protocol_parts.specs.declared.line_fault.LineFault.TheVariants.{B1, B2, B5}
use Rattle.line_table.specs.declared.first_words.FirstWord.{FirstWord}
use Rattle.line_table.specs.declared.first_words.FirstWord.TheVariants as first_word
use Rattle.line_table.specs.Spelling.{is_comma, numeral_of, numbers_of, delta_of, end_of, at_most_of, keep_of, filled_of, track_of, tracks_of, place_of, what_of}
use Rattle.line_table.specs.Reading.{AreRead, IsRowRead, overwrite_of, insert_of, remove_of, extract_of, slice_of, dissolve_of, undissolve_of, trim_of, slip_of, roll_of, slide_of, fill_of, ripple_of, link_of, unlink_of, back_of, view_of, items_of, point_of, otio_of, news_of, edit, are_linking, first_word_of, row_of, row_if, line_of_words, line_of}
use Rattle.line_table.specs.Table.{AreDeed, AreLength, AreWords, IsLine, word_of}
use Rattle.take_back.specs.declared.step.Deed.{Deed}
use Rattle.take_back.specs.declared.step.Deed.TheVariants.{Do, Back}
use Rattle.line_table.proofs.ReadParts.{bind_ok, chosen, ok_same, err_ok, numeral_spelled, numeral_read, numerals_spelled, numerals_read, delta_spelled, delta_read, end_spelled, end_read, few_spelled, few_read, keep_spelled, keep_read, filled_spelled, track_spelled, track_read, tracks_spelled, tracks_read, place_spelled, place_read, thing_spelled, thing_read}

pub some_same : {A : Type 0} (x y : A) → Some x ≡ Some y → x ≡ y
some_same x y h = cc

-- the word is this one, or one of the others
named : (word : List ℕ) (j k : FirstWord) (others : Option FirstWord) → (others ≡ Some k → word ≡ word_of k) → (if bytes_eq word (word_of j) then Some j else others) ≡ Some k → word ≡ word_of k
named word j k others more h = elim (chosen (bytes_eq word (word_of j)) _ _ (Some k) h) [
  | inl this ↦ let same = some_same j k this.1 in rw (← same) ((bytes_eq-Decides word (word_of j)).0 this.0)
  | inr other ↦ more other.1
]

pub first_spelled : (word : List ℕ) (k : FirstWord) → first_word_of word ≡ Some k → word ≡ word_of k
first_spelled word k h = named word first_word.Overwrite k _
    (named word first_word.Insert k _
    (named word first_word.Remove k _
    (named word first_word.Extract k _
    (named word first_word.Slice k _
    (named word first_word.Dissolve k _
    (named word first_word.Undissolve k _
    (named word first_word.Trim k _
    (named word first_word.Slip k _
    (named word first_word.Roll k _
    (named word first_word.Slide k _
    (named word first_word.Fill k _
    (named word first_word.Ripple k _
    (named word first_word.Link k _
    (named word first_word.Unlink k _
    (named word first_word.Back k _
    (named word first_word.View k _
    (named word first_word.Items k _
    (named word first_word.Point k _
    (named word first_word.Otio k _
    (named word first_word.News k None (λ none. absurd cc))))))))))))))))))))) h

pub first_read : (k : FirstWord) → first_word_of (word_of k) ≡ Some k
first_read first_word.Overwrite = refl
first_read first_word.Insert = refl
first_read first_word.Remove = refl
first_read first_word.Extract = refl
first_read first_word.Slice = refl
first_read first_word.Dissolve = refl
first_read first_word.Undissolve = refl
first_read first_word.Trim = refl
first_read first_word.Slip = refl
first_read first_word.Roll = refl
first_read first_word.Slide = refl
first_read first_word.Fill = refl
first_read first_word.Ripple = refl
first_read first_word.Link = refl
first_read first_word.Unlink = refl
first_read first_word.Back = refl
first_read first_word.View = refl
first_read first_word.Items = refl
first_read first_word.Point = refl
first_read first_word.Otio = refl
first_read first_word.News = refl

-- the first word of a line of this row
pub linking : (first : List ℕ) (words : List (List ℕ)) (k : FirstWord) → first_word_of first ≡ Some k → k ≡ first_word.Link → are_linking (first ∷ words) ≡ true
linking first words k found link =
    let same = first_spelled first k found in
    let word = ap word_of link in
    (bytes_eq-Decides first (codes "link")).1 (same ∙ word)

overwrite_spelled : (place_at : List ℕ → Option ℕ) (words : List (List ℕ)) (line : Line) → overwrite_of place_at words ≡ Ok line → AreWords place_at (word_of first_word.Overwrite ∷ words) line
overwrite_spelled place_at [] line h = absurd (err_ok B2 line h)
overwrite_spelled place_at (a ∷ []) line h = absurd (err_ok B2 line h)
overwrite_spelled place_at (a ∷ b ∷ []) line h = absurd (err_ok B2 line h)
overwrite_spelled place_at (a ∷ b ∷ c ∷ []) line h = absurd (err_ok B2 line h)
overwrite_spelled place_at (a ∷ b ∷ c ∷ d ∷ []) line h = absurd (err_ok B2 line h)
overwrite_spelled place_at (a ∷ b ∷ c ∷ d ∷ e ∷ rest) line h =
    let few = bind_ok (at_most_of 1 rest) _ line h in
    let track = bind_ok (track_of a) _ line few.2 in
    let at = bind_ok (place_of place_at b) _ line track.2 in
    let what = bind_ok (what_of c) _ line at.2 in
    let from = bind_ok (numeral_of d) _ line what.2 in
    let len = bind_ok (numeral_of e) _ line from.2 in
    let keep = bind_ok (keep_of rest) _ line len.2 in
    let same = ok_same (edit (call.Overwrite (record { track = track.0; at = at.0; what = what.0; from = from.0; len = len.0; keep = keep.0 }))) line keep.2 in
    let last = keep_spelled rest keep.0 (few_spelled 1 rest few.0 few.1) keep.1 in
    rw (← same) (
      refl,
      (
        a,
        b,
        c,
        d,
        e,
        ap (λ (ws : List (List ℕ)). word_of first_word.Overwrite ∷ a ∷ b ∷ c ∷ d ∷ e ∷ ws) last,
        track_spelled a track.0 track.1,
        place_spelled place_at b at.0 at.1,
        thing_spelled c what.0 what.1,
        numeral_spelled d from.0 from.1,
        numeral_spelled e len.0 len.1,
      ),
    )

insert_spelled : (place_at : List ℕ → Option ℕ) (words : List (List ℕ)) (line : Line) → insert_of place_at words ≡ Ok line → AreWords place_at (word_of first_word.Insert ∷ words) line
insert_spelled place_at [] line h = absurd (err_ok B2 line h)
insert_spelled place_at (a ∷ []) line h = absurd (err_ok B2 line h)
insert_spelled place_at (a ∷ b ∷ []) line h = absurd (err_ok B2 line h)
insert_spelled place_at (a ∷ b ∷ c ∷ []) line h = absurd (err_ok B2 line h)
insert_spelled place_at (a ∷ b ∷ c ∷ d ∷ []) line h = absurd (err_ok B2 line h)
insert_spelled place_at (a ∷ b ∷ c ∷ d ∷ e ∷ []) line h = absurd (err_ok B2 line h)
insert_spelled place_at (a ∷ b ∷ c ∷ d ∷ e ∷ f ∷ rest) line h =
    let few = bind_ok (at_most_of 1 rest) _ line h in
    let tracks = bind_ok (tracks_of a) _ line few.2 in
    let track = bind_ok (track_of b) _ line tracks.2 in
    let at = bind_ok (place_of place_at c) _ line track.2 in
    let what = bind_ok (what_of d) _ line at.2 in
    let from = bind_ok (numeral_of e) _ line what.2 in
    let len = bind_ok (numeral_of f) _ line from.2 in
    let keep = bind_ok (keep_of rest) _ line len.2 in
    let same = ok_same (edit (call.Insert (record { tracks = tracks.0; track = track.0; at = at.0; what = what.0; from = from.0; len = len.0; keep = keep.0 }))) line keep.2 in
    let last = keep_spelled rest keep.0 (few_spelled 1 rest few.0 few.1) keep.1 in
    rw (← same) (
      refl,
      (
        a,
        b,
        c,
        d,
        e,
        f,
        ap (λ (ws : List (List ℕ)). word_of first_word.Insert ∷ a ∷ b ∷ c ∷ d ∷ e ∷ f ∷ ws) last,
        tracks_spelled a tracks.0 tracks.1,
        track_spelled b track.0 track.1,
        place_spelled place_at c at.0 at.1,
        thing_spelled d what.0 what.1,
        numeral_spelled e from.0 from.1,
        numeral_spelled f len.0 len.1,
      ),
    )

remove_spelled : (place_at : List ℕ → Option ℕ) (words : List (List ℕ)) (line : Line) → remove_of words ≡ Ok line → AreWords place_at (word_of first_word.Remove ∷ words) line
remove_spelled place_at [] line h = absurd (err_ok B2 line h)
remove_spelled place_at (a ∷ []) line h = absurd (err_ok B2 line h)
remove_spelled place_at (a ∷ b ∷ rest) line h =
    let few = bind_ok (at_most_of 1 rest) _ line h in
    let track = bind_ok (track_of a) _ line few.2 in
    let item = bind_ok (numeral_of b) _ line track.2 in
    let keep = bind_ok (keep_of rest) _ line item.2 in
    let same = ok_same (edit (call.Remove (record { track = track.0; item = item.0; keep = keep.0 }))) line keep.2 in
    let last = keep_spelled rest keep.0 (few_spelled 1 rest few.0 few.1) keep.1 in
    rw (← same) (refl, (a, b, ap (λ (ws : List (List ℕ)). word_of first_word.Remove ∷ a ∷ b ∷ ws) last, track_spelled a track.0 track.1, numeral_spelled b item.0 item.1))

extract_spelled : (place_at : List ℕ → Option ℕ) (words : List (List ℕ)) (line : Line) → extract_of words ≡ Ok line → AreWords place_at (word_of first_word.Extract ∷ words) line
extract_spelled place_at [] line h = absurd (err_ok B2 line h)
extract_spelled place_at (a ∷ []) line h = absurd (err_ok B2 line h)
extract_spelled place_at (a ∷ b ∷ []) line h = absurd (err_ok B2 line h)
extract_spelled place_at (a ∷ b ∷ c ∷ rest) line h =
    let few = bind_ok (at_most_of 1 rest) _ line h in
    let tracks = bind_ok (tracks_of a) _ line few.2 in
    let track = bind_ok (track_of b) _ line tracks.2 in
    let item = bind_ok (numeral_of c) _ line track.2 in
    let keep = bind_ok (keep_of rest) _ line item.2 in
    let same = ok_same (edit (call.Extract (record { tracks = tracks.0; track = track.0; item = item.0; keep = keep.0 }))) line keep.2 in
    let last = keep_spelled rest keep.0 (few_spelled 1 rest few.0 few.1) keep.1 in
    rw (← same) (refl, (a, b, c, ap (λ (ws : List (List ℕ)). word_of first_word.Extract ∷ a ∷ b ∷ c ∷ ws) last, tracks_spelled a tracks.0 tracks.1, track_spelled b track.0 track.1, numeral_spelled c item.0 item.1))

slice_spelled : (place_at : List ℕ → Option ℕ) (words : List (List ℕ)) (line : Line) → slice_of place_at words ≡ Ok line → AreWords place_at (word_of first_word.Slice ∷ words) line
slice_spelled place_at [] line h = absurd (err_ok B2 line h)
slice_spelled place_at (a ∷ []) line h = absurd (err_ok B2 line h)
slice_spelled place_at (a ∷ b ∷ rest) line h =
    let few = bind_ok (at_most_of 1 rest) _ line h in
    let track = bind_ok (track_of a) _ line few.2 in
    let at = bind_ok (place_of place_at b) _ line track.2 in
    let keep = bind_ok (keep_of rest) _ line at.2 in
    let same = ok_same (edit (call.Slice (record { track = track.0; at = at.0; keep = keep.0 }))) line keep.2 in
    let last = keep_spelled rest keep.0 (few_spelled 1 rest few.0 few.1) keep.1 in
    rw (← same) (refl, (a, b, ap (λ (ws : List (List ℕ)). word_of first_word.Slice ∷ a ∷ b ∷ ws) last, track_spelled a track.0 track.1, place_spelled place_at b at.0 at.1))

dissolve_spelled : (place_at : List ℕ → Option ℕ) (words : List (List ℕ)) (line : Line) → dissolve_of place_at words ≡ Ok line → AreWords place_at (word_of first_word.Dissolve ∷ words) line
dissolve_spelled place_at [] line h = absurd (err_ok B2 line h)
dissolve_spelled place_at (a ∷ []) line h = absurd (err_ok B2 line h)
dissolve_spelled place_at (a ∷ b ∷ []) line h = absurd (err_ok B2 line h)
dissolve_spelled place_at (a ∷ b ∷ c ∷ []) line h = absurd (err_ok B2 line h)
dissolve_spelled place_at (a ∷ b ∷ c ∷ d ∷ []) line h =
    let track = bind_ok (track_of a) _ line h in
    let at = bind_ok (place_of place_at b) _ line track.2 in
    let before = bind_ok (numeral_of c) _ line at.2 in
    let after = bind_ok (numeral_of d) _ line before.2 in
    let same = ok_same (edit (call.Dissolve (record { track = track.0; at = at.0; a = before.0; b = after.0 }))) line after.2 in
    rw (← same) (
      refl,
      (
        a,
        b,
        c,
        d,
        refl,
        track_spelled a track.0 track.1,
        place_spelled place_at b at.0 at.1,
        numeral_spelled c before.0 before.1,
        numeral_spelled d after.0 after.1,
      ),
    )
dissolve_spelled place_at (a ∷ b ∷ c ∷ d ∷ e ∷ words) line h = absurd (err_ok B2 line h)

undissolve_spelled : (place_at : List ℕ → Option ℕ) (words : List (List ℕ)) (line : Line) → undissolve_of place_at words ≡ Ok line → AreWords place_at (word_of first_word.Undissolve ∷ words) line
undissolve_spelled place_at [] line h = absurd (err_ok B2 line h)
undissolve_spelled place_at (a ∷ []) line h = absurd (err_ok B2 line h)
undissolve_spelled place_at (a ∷ b ∷ []) line h =
    let track = bind_ok (track_of a) _ line h in
    let at = bind_ok (place_of place_at b) _ line track.2 in
    let same = ok_same (edit (call.Undissolve (record { track = track.0; at = at.0 }))) line at.2 in
    rw (← same) (refl, (a, b, refl, track_spelled a track.0 track.1, place_spelled place_at b at.0 at.1))
undissolve_spelled place_at (a ∷ b ∷ c ∷ words) line h = absurd (err_ok B2 line h)

trim_spelled : (place_at : List ℕ → Option ℕ) (words : List (List ℕ)) (line : Line) → trim_of words ≡ Ok line → AreWords place_at (word_of first_word.Trim ∷ words) line
trim_spelled place_at [] line h = absurd (err_ok B2 line h)
trim_spelled place_at (a ∷ []) line h = absurd (err_ok B2 line h)
trim_spelled place_at (a ∷ b ∷ []) line h = absurd (err_ok B2 line h)
trim_spelled place_at (a ∷ b ∷ c ∷ []) line h = absurd (err_ok B2 line h)
trim_spelled place_at (a ∷ b ∷ c ∷ d ∷ []) line h =
    let track = bind_ok (track_of a) _ line h in
    let item = bind_ok (numeral_of b) _ line track.2 in
    let end = bind_ok (end_of c) _ line item.2 in
    let delta = bind_ok (delta_of d) _ line end.2 in
    let same = ok_same (edit (call.Trim (record { track = track.0; item = item.0; end = end.0; by = delta.0 }))) line delta.2 in
    rw (← same) (
      refl,
      (
        a,
        b,
        d,
        ap (λ (w : List ℕ). word_of first_word.Trim ∷ a ∷ b ∷ w ∷ d ∷ []) (end_spelled c end.0 end.1),
        track_spelled a track.0 track.1,
        numeral_spelled b item.0 item.1,
        delta_spelled d delta.0 delta.1,
      ),
    )
trim_spelled place_at (a ∷ b ∷ c ∷ d ∷ e ∷ words) line h = absurd (err_ok B2 line h)

slip_spelled : (place_at : List ℕ → Option ℕ) (words : List (List ℕ)) (line : Line) → slip_of words ≡ Ok line → AreWords place_at (word_of first_word.Slip ∷ words) line
slip_spelled place_at [] line h = absurd (err_ok B2 line h)
slip_spelled place_at (a ∷ []) line h = absurd (err_ok B2 line h)
slip_spelled place_at (a ∷ b ∷ []) line h = absurd (err_ok B2 line h)
slip_spelled place_at (a ∷ b ∷ c ∷ []) line h = absurd (err_ok B2 line h)
slip_spelled place_at (a ∷ b ∷ c ∷ d ∷ []) line h =
    let tracks = bind_ok (tracks_of a) _ line h in
    let track = bind_ok (track_of b) _ line tracks.2 in
    let item = bind_ok (numeral_of c) _ line track.2 in
    let delta = bind_ok (delta_of d) _ line item.2 in
    let same = ok_same (edit (call.Slip (record { tracks = tracks.0; track = track.0; item = item.0; by = delta.0 }))) line delta.2 in
    rw (← same) (
      refl,
      (
        a,
        b,
        c,
        d,
        refl,
        tracks_spelled a tracks.0 tracks.1,
        track_spelled b track.0 track.1,
        numeral_spelled c item.0 item.1,
        delta_spelled d delta.0 delta.1,
      ),
    )
slip_spelled place_at (a ∷ b ∷ c ∷ d ∷ e ∷ words) line h = absurd (err_ok B2 line h)

roll_spelled : (place_at : List ℕ → Option ℕ) (words : List (List ℕ)) (line : Line) → roll_of place_at words ≡ Ok line → AreWords place_at (word_of first_word.Roll ∷ words) line
roll_spelled place_at [] line h = absurd (err_ok B2 line h)
roll_spelled place_at (a ∷ []) line h = absurd (err_ok B2 line h)
roll_spelled place_at (a ∷ b ∷ []) line h = absurd (err_ok B2 line h)
roll_spelled place_at (a ∷ b ∷ c ∷ []) line h =
    let track = bind_ok (track_of a) _ line h in
    let at = bind_ok (place_of place_at b) _ line track.2 in
    let delta = bind_ok (delta_of c) _ line at.2 in
    let same = ok_same (edit (call.Roll (record { track = track.0; at = at.0; by = delta.0 }))) line delta.2 in
    rw (← same) (refl, (a, b, c, refl, track_spelled a track.0 track.1, place_spelled place_at b at.0 at.1, delta_spelled c delta.0 delta.1))
roll_spelled place_at (a ∷ b ∷ c ∷ d ∷ words) line h = absurd (err_ok B2 line h)

slide_spelled : (place_at : List ℕ → Option ℕ) (words : List (List ℕ)) (line : Line) → slide_of words ≡ Ok line → AreWords place_at (word_of first_word.Slide ∷ words) line
slide_spelled place_at [] line h = absurd (err_ok B2 line h)
slide_spelled place_at (a ∷ []) line h = absurd (err_ok B2 line h)
slide_spelled place_at (a ∷ b ∷ []) line h = absurd (err_ok B2 line h)
slide_spelled place_at (a ∷ b ∷ c ∷ []) line h = absurd (err_ok B2 line h)
slide_spelled place_at (a ∷ b ∷ c ∷ d ∷ []) line h =
    let tracks = bind_ok (tracks_of a) _ line h in
    let track = bind_ok (track_of b) _ line tracks.2 in
    let item = bind_ok (numeral_of c) _ line track.2 in
    let delta = bind_ok (delta_of d) _ line item.2 in
    let same = ok_same (edit (call.Slide (record { tracks = tracks.0; track = track.0; item = item.0; by = delta.0 }))) line delta.2 in
    rw (← same) (
      refl,
      (
        a,
        b,
        c,
        d,
        refl,
        tracks_spelled a tracks.0 tracks.1,
        track_spelled b track.0 track.1,
        numeral_spelled c item.0 item.1,
        delta_spelled d delta.0 delta.1,
      ),
    )
slide_spelled place_at (a ∷ b ∷ c ∷ d ∷ e ∷ words) line h = absurd (err_ok B2 line h)

fill_spelled : (place_at : List ℕ → Option ℕ) (words : List (List ℕ)) (line : Line) → fill_of place_at words ≡ Ok line → AreWords place_at (word_of first_word.Fill ∷ words) line
fill_spelled place_at [] line h = absurd (err_ok B2 line h)
fill_spelled place_at (a ∷ []) line h = absurd (err_ok B2 line h)
fill_spelled place_at (a ∷ b ∷ []) line h = absurd (err_ok B2 line h)
fill_spelled place_at (a ∷ b ∷ c ∷ []) line h = absurd (err_ok B2 line h)
fill_spelled place_at (a ∷ b ∷ c ∷ d ∷ []) line h = absurd (err_ok B2 line h)
fill_spelled place_at (a ∷ b ∷ c ∷ d ∷ e ∷ rest) line h =
    let few = bind_ok (at_most_of 2 rest) _ line h in
    let track = bind_ok (track_of a) _ line few.2 in
    let at = bind_ok (place_of place_at b) _ line track.2 in
    let what = bind_ok (what_of c) _ line at.2 in
    let from = bind_ok (numeral_of d) _ line what.2 in
    let filled = bind_ok (filled_of e rest) _ line from.2 in
    let same = ok_same (edit (call.Fill (record { track = track.0; at = at.0; what = what.0; from = from.0; length = filled.0.0; keep = filled.0.1 }))) line filled.2 in
    rw (← same) (
      refl,
      (
        a,
        b,
        c,
        d,
        e ∷ rest,
        refl,
        track_spelled a track.0 track.1,
        place_spelled place_at b at.0 at.1,
        thing_spelled c what.0 what.1,
        numeral_spelled d from.0 from.1,
        filled_spelled e rest filled.0 (few_spelled 2 rest few.0 few.1) filled.1,
      ),
    )

ripple_spelled : (place_at : List ℕ → Option ℕ) (words : List (List ℕ)) (line : Line) → ripple_of words ≡ Ok line → AreWords place_at (word_of first_word.Ripple ∷ words) line
ripple_spelled place_at [] line h = absurd (err_ok B2 line h)
ripple_spelled place_at (a ∷ []) line h = absurd (err_ok B2 line h)
ripple_spelled place_at (a ∷ b ∷ []) line h = absurd (err_ok B2 line h)
ripple_spelled place_at (a ∷ b ∷ c ∷ []) line h = absurd (err_ok B2 line h)
ripple_spelled place_at (a ∷ b ∷ c ∷ d ∷ []) line h = absurd (err_ok B2 line h)
ripple_spelled place_at (a ∷ b ∷ c ∷ d ∷ e ∷ []) line h =
    let tracks = bind_ok (tracks_of a) _ line h in
    let track = bind_ok (track_of b) _ line tracks.2 in
    let item = bind_ok (numeral_of c) _ line track.2 in
    let end = bind_ok (end_of d) _ line item.2 in
    let delta = bind_ok (delta_of e) _ line end.2 in
    let same = ok_same (edit (call.Ripple (record { tracks = tracks.0; track = track.0; item = item.0; end = end.0; by = delta.0 }))) line delta.2 in
    rw (← same) (
      refl,
      (
        a,
        b,
        c,
        e,
        ap (λ (w : List ℕ). word_of first_word.Ripple ∷ a ∷ b ∷ c ∷ w ∷ e ∷ []) (end_spelled d end.0 end.1),
        tracks_spelled a tracks.0 tracks.1,
        track_spelled b track.0 track.1,
        numeral_spelled c item.0 item.1,
        delta_spelled e delta.0 delta.1,
      ),
    )
ripple_spelled place_at (a ∷ b ∷ c ∷ d ∷ e ∷ f ∷ words) line h = absurd (err_ok B2 line h)

link_spelled : (place_at : List ℕ → Option ℕ) (words : List (List ℕ)) (line : Line) → link_of words ≡ Ok line → AreWords place_at (word_of first_word.Link ∷ words) line
link_spelled place_at [] line h = absurd (err_ok B2 line h)
link_spelled place_at (a ∷ []) line h = absurd (err_ok B2 line h)
link_spelled place_at (a ∷ b ∷ []) line h =
    let tracks = bind_ok (tracks_of a) _ line h in
    let items = bind_ok (numbers_of b) _ line tracks.2 in
    elim (chosen (nat_eq (length items.0) (length (tracks_in tracks.0))) _ _ (Ok line) items.2) [
      | inl even ↦
          let same = ok_same (edit (call.Link3 (record { tracks = tracks.0; items = items.0 }))) line even.1 in
          let count = eqb-true (length items.0) (length (tracks_in tracks.0)) even.0 in
          rw (← same) (refl, (a, b, refl, tracks_spelled a tracks.0 tracks.1, (numerals_spelled (slice_split is_comma b) items.0 items.1, count)))
      | inr uneven ↦ absurd (err_ok B2 line uneven.1)
    ]
link_spelled place_at (a ∷ b ∷ c ∷ words) line h = absurd (err_ok B2 line h)

unlink_spelled : (place_at : List ℕ → Option ℕ) (words : List (List ℕ)) (line : Line) → unlink_of words ≡ Ok line → AreWords place_at (word_of first_word.Unlink ∷ words) line
unlink_spelled place_at [] line h = absurd (err_ok B2 line h)
unlink_spelled place_at (a ∷ []) line h = absurd (err_ok B2 line h)
unlink_spelled place_at (a ∷ b ∷ []) line h =
    let track = bind_ok (track_of a) _ line h in
    let item = bind_ok (numeral_of b) _ line track.2 in
    let same = ok_same (edit (call.Unlink (record { track = track.0; item = item.0 }))) line item.2 in
    rw (← same) (refl, (a, b, refl, track_spelled a track.0 track.1, numeral_spelled b item.0 item.1))
unlink_spelled place_at (a ∷ b ∷ c ∷ words) line h = absurd (err_ok B2 line h)

back_spelled : (place_at : List ℕ → Option ℕ) (words : List (List ℕ)) (line : Line) → back_of words ≡ Ok line → AreWords place_at (word_of first_word.Back ∷ words) line
back_spelled place_at [] line h = absurd (err_ok B2 line h)
back_spelled place_at (a ∷ []) line h =
    let tracks = bind_ok (tracks_of a) _ line h in
    let same = ok_same (Edit (record { by = 0; act = Back tracks.0 })) line tracks.2 in
    rw (← same) (refl, (a, refl, tracks_spelled a tracks.0 tracks.1))
back_spelled place_at (a ∷ b ∷ words) line h = absurd (err_ok B2 line h)

view_spelled : (place_at : List ℕ → Option ℕ) (words : List (List ℕ)) (line : Line) → view_of place_at words ≡ Ok line → AreWords place_at (word_of first_word.View ∷ words) line
view_spelled place_at [] line h = absurd (err_ok B2 line h)
view_spelled place_at (a ∷ []) line h = absurd (err_ok B2 line h)
view_spelled place_at (a ∷ b ∷ []) line h = absurd (err_ok B2 line h)
view_spelled place_at (a ∷ b ∷ c ∷ []) line h =
    let track = bind_ok (track_of a) _ line h in
    let from = bind_ok (place_of place_at b) _ line track.2 in
    let to = bind_ok (place_of place_at c) _ line from.2 in
    let same = ok_same (Ask (ask.View track.0 from.0 to.0)) line to.2 in
    rw (← same) (a, b, c, refl, track_spelled a track.0 track.1, place_spelled place_at b from.0 from.1, place_spelled place_at c to.0 to.1)
view_spelled place_at (a ∷ b ∷ c ∷ d ∷ words) line h = absurd (err_ok B2 line h)

items_spelled : (place_at : List ℕ → Option ℕ) (words : List (List ℕ)) (line : Line) → items_of words ≡ Ok line → AreWords place_at (word_of first_word.Items ∷ words) line
items_spelled place_at [] line h = absurd (err_ok B2 line h)
items_spelled place_at (a ∷ []) line h =
    let track = bind_ok (track_of a) _ line h in
    let same = ok_same (Ask (ask.Items track.0)) line track.2 in
    rw (← same) (a, refl, track_spelled a track.0 track.1)
items_spelled place_at (a ∷ b ∷ words) line h = absurd (err_ok B2 line h)

point_spelled : (place_at : List ℕ → Option ℕ) (words : List (List ℕ)) (line : Line) → point_of words ≡ Ok line → AreWords place_at (word_of first_word.Point ∷ words) line
point_spelled place_at [] line h = let same = ok_same Point line h in rw (← same) refl
point_spelled place_at (a ∷ words) line h = absurd (err_ok B2 line h)

otio_spelled : (place_at : List ℕ → Option ℕ) (words : List (List ℕ)) (line : Line) → otio_of words ≡ Ok line → AreWords place_at (word_of first_word.Otio ∷ words) line
otio_spelled place_at [] line h = absurd (err_ok B2 line h)
otio_spelled place_at (a ∷ []) line h =
    let point = bind_ok (numeral_of a) _ line h in
    let same = ok_same (Otio point.0) line point.2 in
    rw (← same) (a, refl, numeral_spelled a point.0 point.1)
otio_spelled place_at (a ∷ b ∷ words) line h = absurd (err_ok B2 line h)

news_spelled : (place_at : List ℕ → Option ℕ) (words : List (List ℕ)) (line : Line) → news_of words ≡ Ok line → AreWords place_at (word_of first_word.News ∷ words) line
news_spelled place_at [] line h = absurd (err_ok B2 line h)
news_spelled place_at (a ∷ []) line h =
    let place = bind_ok (numeral_of a) _ line h in
    let same = ok_same (News place.0) line place.2 in
    rw (← same) (a, refl, numeral_spelled a place.0 place.1)
news_spelled place_at (a ∷ b ∷ words) line h = absurd (err_ok B2 line h)

row_spelled : (place_at : List ℕ → Option ℕ) (k : FirstWord) (words : List (List ℕ)) (line : Line) → row_of place_at k words ≡ Ok line → AreWords place_at (word_of k ∷ words) line
row_spelled place_at first_word.Overwrite words line h = overwrite_spelled place_at words line h
row_spelled place_at first_word.Insert words line h = insert_spelled place_at words line h
row_spelled place_at first_word.Remove words line h = remove_spelled place_at words line h
row_spelled place_at first_word.Extract words line h = extract_spelled place_at words line h
row_spelled place_at first_word.Slice words line h = slice_spelled place_at words line h
row_spelled place_at first_word.Dissolve words line h = dissolve_spelled place_at words line h
row_spelled place_at first_word.Undissolve words line h = undissolve_spelled place_at words line h
row_spelled place_at first_word.Trim words line h = trim_spelled place_at words line h
row_spelled place_at first_word.Slip words line h = slip_spelled place_at words line h
row_spelled place_at first_word.Roll words line h = roll_spelled place_at words line h
row_spelled place_at first_word.Slide words line h = slide_spelled place_at words line h
row_spelled place_at first_word.Fill words line h = fill_spelled place_at words line h
row_spelled place_at first_word.Ripple words line h = ripple_spelled place_at words line h
row_spelled place_at first_word.Link words line h = link_spelled place_at words line h
row_spelled place_at first_word.Unlink words line h = unlink_spelled place_at words line h
row_spelled place_at first_word.Back words line h = back_spelled place_at words line h
row_spelled place_at first_word.View words line h = view_spelled place_at words line h
row_spelled place_at first_word.Items words line h = items_spelled place_at words line h
row_spelled place_at first_word.Point words line h = point_spelled place_at words line h
row_spelled place_at first_word.Otio words line h = otio_spelled place_at words line h
row_spelled place_at first_word.News words line h = news_spelled place_at words line h

if_spelled : (place_at : List ℕ → Option ℕ) (first : List ℕ) (o : Option FirstWord) (words : List (List ℕ)) (line : Line)
    → first_word_of first ≡ o → row_if place_at o words ≡ Ok line → AreWords place_at (first ∷ words) line
if_spelled place_at first None words line is h = absurd (err_ok B1 line h)
if_spelled place_at first (Some k) words line is h = let same = first_spelled first k is in rw same (row_spelled place_at k words line h)

words_spelled : (place_at : List ℕ → Option ℕ) (words : List (List ℕ)) (line : Line) → line_of_words place_at words ≡ Ok line → AreWords place_at words line
words_spelled place_at [] line h = absurd (err_ok B2 line h)
words_spelled place_at (first ∷ words) line h = if_spelled place_at first (first_word_of first) words line refl h

pub line_spelled : (place_at : List ℕ → Option ℕ) (bytes : List ℕ) (line : Line) → line_of place_at bytes ≡ Ok line → IsLine place_at bytes line
line_spelled place_at bytes line h = elim (chosen (nat_le (length bytes) 1024) _ _ (Ok line) h) [
  | inl short ↦ record { short = leb-true (length bytes) 1024 short.0; words = words_spelled place_at (words_of bytes) line short.1 }
  | inr long ↦ absurd (err_ok B5 line long.1)
]

fill_read : (place_at : List ℕ → Option ℕ) (t a w f : List ℕ) (rest : List (List ℕ)) (track at : ℕ) (what : What) (from : ℕ) (len : FillLength) (keep : Bool)
    → track_of t ≡ Ok track → place_of place_at a ≡ Ok at → what_of w ≡ Ok what → numeral_of f ≡ Ok from → AreLength rest len keep
    → fill_of place_at (t ∷ a ∷ w ∷ f ∷ rest) ≡ Ok (edit (call.Fill (record { track = track; at = at; what = what; from = from; length = len; keep = keep })))
fill_read place_at t a w f rest track at what from (Source n) true is_track is_at is_what is_from (word, is_rest, is_number) =
    let number = numeral_read word n is_number in
    rw (is_rest, is_track, is_at, is_what, is_from, number) refl
fill_read place_at t a w f rest track at what from (Source n) false is_track is_at is_what is_from (word, is_rest, is_number) =
    let number = numeral_read word n is_number in
    rw (is_rest, is_track, is_at, is_what, is_from, number) refl
fill_read place_at t a w f rest track at what from Sequence true is_track is_at is_what is_from is_rest = rw (is_rest, is_track, is_at, is_what, is_from) refl
fill_read place_at t a w f rest track at what from Sequence false is_track is_at is_what is_from is_rest = rw (is_rest, is_track, is_at, is_what, is_from) refl

deed_read : (place_at : List ℕ → Option ℕ) (words : List (List ℕ)) (a : Deed Call) → AreDeed place_at words a → line_of_words place_at words ≡ Ok (Edit (record { by = 0; act = a }))
deed_read place_at words (Do (call.Overwrite c)) h =
    let track = track_read h.0 c.track h.6 in
    let at = place_read place_at h.1 c.at h.7 in
    let what = thing_read h.2 c.what h.8 in
    let from = numeral_read h.3 c.from h.9 in
    let len = numeral_read h.4 c.len h.10 in
    let few = few_read c.keep in
    let keep = keep_read c.keep in
    rw (h.5, few, track, at, what, from, len, keep) refl
deed_read place_at words (Do (call.Insert c)) h =
    let tracks = tracks_read h.0 c.tracks h.7 in
    let track = track_read h.1 c.track h.8 in
    let at = place_read place_at h.2 c.at h.9 in
    let what = thing_read h.3 c.what h.10 in
    let from = numeral_read h.4 c.from h.11 in
    let len = numeral_read h.5 c.len h.12 in
    let few = few_read c.keep in
    let keep = keep_read c.keep in
    rw (h.6, few, tracks, track, at, what, from, len, keep) refl
deed_read place_at words (Do (call.Remove c)) h =
    let track = track_read h.0 c.track h.3 in
    let item = numeral_read h.1 c.item h.4 in
    let few = few_read c.keep in
    let keep = keep_read c.keep in
    rw (h.2, few, track, item, keep) refl
deed_read place_at words (Do (call.Extract c)) h =
    let tracks = tracks_read h.0 c.tracks h.4 in
    let track = track_read h.1 c.track h.5 in
    let item = numeral_read h.2 c.item h.6 in
    let few = few_read c.keep in
    let keep = keep_read c.keep in
    rw (h.3, few, tracks, track, item, keep) refl
deed_read place_at words (Do (call.Slice c)) h =
    let track = track_read h.0 c.track h.3 in
    let at = place_read place_at h.1 c.at h.4 in
    let few = few_read c.keep in
    let keep = keep_read c.keep in
    rw (h.2, few, track, at, keep) refl
deed_read place_at words (Do (call.Dissolve c)) h =
    let track = track_read h.0 c.track h.5 in
    let at = place_read place_at h.1 c.at h.6 in
    let before = numeral_read h.2 c.a h.7 in
    let after = numeral_read h.3 c.b h.8 in
    rw (h.4, track, at, before, after) refl
deed_read place_at words (Do (call.Undissolve c)) h =
    let track = track_read h.0 c.track h.3 in
    let at = place_read place_at h.1 c.at h.4 in
    rw (h.2, track, at) refl
deed_read place_at words (Do (call.Trim c)) h =
    let track = track_read h.0 c.track h.4 in
    let item = numeral_read h.1 c.item h.5 in
    let end = end_read c.end in
    let delta = delta_read h.2 c.by h.6 in
    rw (h.3, track, item, end, delta) refl
deed_read place_at words (Do (call.Slip c)) h =
    let tracks = tracks_read h.0 c.tracks h.5 in
    let track = track_read h.1 c.track h.6 in
    let item = numeral_read h.2 c.item h.7 in
    let delta = delta_read h.3 c.by h.8 in
    rw (h.4, tracks, track, item, delta) refl
deed_read place_at words (Do (call.Roll c)) h =
    let track = track_read h.0 c.track h.4 in
    let at = place_read place_at h.1 c.at h.5 in
    let delta = delta_read h.2 c.by h.6 in
    rw (h.3, track, at, delta) refl
deed_read place_at words (Do (call.Slide c)) h =
    let tracks = tracks_read h.0 c.tracks h.5 in
    let track = track_read h.1 c.track h.6 in
    let item = numeral_read h.2 c.item h.7 in
    let delta = delta_read h.3 c.by h.8 in
    rw (h.4, tracks, track, item, delta) refl
deed_read place_at words (Do (call.Fill c)) h =
    let track = track_read h.0 c.track h.6 in
    let at = place_read place_at h.1 c.at h.7 in
    let what = thing_read h.2 c.what h.8 in
    let from = numeral_read h.3 c.from h.9 in
    rw h.5 (fill_read place_at h.0 h.1 h.2 h.3 h.4 c.track c.at c.what c.from c.length c.keep track at what from h.10)
deed_read place_at words (Do (call.Ripple c)) h =
    let tracks = tracks_read h.0 c.tracks h.5 in
    let track = track_read h.1 c.track h.6 in
    let item = numeral_read h.2 c.item h.7 in
    let end = end_read c.end in
    let delta = delta_read h.3 c.by h.8 in
    rw (h.4, tracks, track, item, end, delta) refl
deed_read place_at words (Do (call.Link3 c)) (list, items, same, is_tracks, (is_numbers, even)) =
    let tracks = tracks_read list c.tracks is_tracks in
    let numbers = numerals_read (slice_split is_comma items) c.items is_numbers in
    let count = eq-eqb (length c.items) (length (tracks_in c.tracks)) even in
    rw (same, tracks, numbers, count) refl
deed_read place_at words (Do (call.Unlink c)) h =
    let track = track_read h.0 c.track h.3 in
    let item = numeral_read h.1 c.item h.4 in
    rw (h.2, track, item) refl
deed_read place_at words (Back set) h = let tracks = tracks_read h.0 set h.2 in rw (h.1, tracks) refl

words_read : (place_at : List ℕ → Option ℕ) (words : List (List ℕ)) (line : Line) → AreWords place_at words line → line_of_words place_at words ≡ Ok line
words_read place_at words (Edit s) h = deed_read place_at words s.act h.1 ∙ ap (λ (n : ℕ). Ok (Edit (record { by = n; act = s.act }))) (sym h.0)
words_read place_at words (Ask (ask.View t p q)) h =
    let track = track_read h.0 t h.4 in
    let a = place_read place_at h.1 p h.5 in
    let b = place_read place_at h.2 q h.6 in
    rw (h.3, track, a, b) refl
words_read place_at words (Ask (ask.Items t)) h = let track = track_read h.0 t h.2 in rw (h.1, track) refl
words_read place_at words Point h = rw h refl
words_read place_at words (Otio n) h = let point = numeral_read h.0 n h.2 in rw (h.1, point) refl
words_read place_at words (News n) h = let place = numeral_read h.0 n h.2 in rw (h.1, place) refl

pub line_read : (place_at : List ℕ → Option ℕ) (bytes : List ℕ) (line : Line) → IsLine place_at bytes line → line_of place_at bytes ≡ Ok line
line_read place_at bytes line h = let short = le-leb (length bytes) 1024 h.short in rw short (words_read place_at (words_of bytes) line h.words)

-- a line is read as its row is, and as its words are
pub row_read : (place_at : List ℕ → Option ℕ) (first : List ℕ) (words : List (List ℕ)) (k : FirstWord) (r : Result Line LineFault) → first_word_of first ≡ Some k → IsRowRead place_at k words r → AreRead place_at (first ∷ words) r
row_read place_at first words k r found (inl is) = inl (rw found is)
row_read place_at first words k r found (inr (link, none)) = inr (linking first words k found link, none)
