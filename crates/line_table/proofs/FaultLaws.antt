-- A line that is not read is none of the table for the fault that is told, and one that is none of the table is not read.
use Rattle.std.proofs.Common.{◌≡◌, ◌≢◌, ℕ, ℤ, ◌+◌, ◌^◌, ◌⊎◌, List, [], ◌∷◌, Bool, true, false, Option, Some, None, Result, Ok, Err, ◌==◌, nat_eq, nat_le, length, if◌then◌else◌, inl, inr, refl, ap, sym, ◌∙◌, arith, codes}
use Rattle.std.specs.List.{slice_split}
use Rattle.std.specs.Str.{bytes_eq}
use Rattle.std.proofs.lemmas.Bool.{leb-true, le-leb, leb-false, lt-leb, eqb-true, eqb-false, ne_eqb}
use Rattle.std.proofs.lemmas.Slice.Eq.{bytes_eq-Decides}
use Rattle.line_words.specs.Blanks.{words_of}
use Rattle.composables.specs.TrackSets.{tracks_in}
use Rattle.edit_calls.specs.declared.asks.Call.TheVariants as call
use Rattle.line_words.specs.Digits.{number_of, signed_of}
use Rattle.line_words.specs.declared.numbers.NumberFault.{NumberFault}
use Rattle.line_words.specs.declared.numbers.NumberFault.TheVariants.{NotANumber, TooLarge}
use Rattle.composables.specs.declared.calls.End.{End}
use Rattle.composables.specs.declared.calls.FillLength.{FillLength}
use Rattle.line_table.specs.declared.lines.Line.{Line}
use Rattle.protocol_parts.specs.declared.line_fault.LineFault.{LineFault}
use Rattle.protocol_parts.specs.declared.line_fault.LineFault.TheVariants.{B1, B2, B3, B4, B5, B6}
use Rattle.line_table.specs.declared.first_words.FirstWord.{FirstWord}
use Rattle.line_table.specs.declared.first_words.FirstWord.TheVariants as first_word
use Rattle.line_table.specs.Spelling.{◌>>=◌, number_or_fault, numeral_of, numerals_of, numbers_of, delta_of, end_of, given_of, keep_of, filled_of, track_of, is_comma, set_with, tracks_of, number_or_label, place_of, what_of}
use Rattle.line_table.specs.Reading.{first_word_of, edit, overwrite_of, insert_of, fill_of, link_of, row_of, row_if, line_of_words, line_of}
use Rattle.line_table.specs.Table.{IsLine, end_word, word_of}
use Rattle.line_table.specs.Faults.{Part, Tracks, Track, Place, Thing, Number, Numbers, Ending, Delta, Given, rows_of, fill_rows, IsNoNumeral, IsTooLarge, IsNoDelta, IsDeltaTooLarge, IsBadTrack, AreBadTracks, AreBadNumerals, AreUneven, HasDigits, IsBadPart, IsPart, FirstIsBad, AreNoRow, AreBad, IsBad}
use Rattle.line_table.proofs.ReadParts.{chosen, ok_same, err_ok, numeral_spelled, numeral_read, numerals_spelled, numerals_read, delta_spelled, delta_read, end_spelled, end_read, given_spelled, given_read, too_many, track_spelled, track_read, tracks_spelled, tracks_read, place_spelled, place_read, thing_spelled, thing_read}
use Rattle.line_table.proofs.TableLaws.{first_spelled, first_read, line_spelled, line_read}

-- the fault of what was not read
abbrev pub error_of : {A : Type 0} → Result A LineFault → Option LineFault
error_of (Ok x) = None
error_of (Err e) = Some e

-- the earlier of two faults
abbrev or_later : Option LineFault → Option LineFault → Option LineFault
or_later (Some e) later = Some e
or_later None later = later

some_same : {A : Type 0} (x y : A) → Some x ≡ Some y → x ≡ y
some_same x y h = cc

error_told : {A : Type 0} (r : Result A LineFault) (e : LineFault) → error_of r ≡ Some e → r ≡ Err e
error_told (Ok x) e h = absurd cc
error_told (Err f) e h = ap Err (some_same f e h)

error_none : {A : Type 0} (r : Result A LineFault) → error_of r ≡ None → (x : A) × (r ≡ Ok x)
error_none (Ok x) h = (x, refl)
error_none (Err f) h = absurd cc

error_read : {A : Type 0} (r : Result A LineFault) (x : A) → r ≡ Ok x → error_of r ≡ None
error_read r x h = ap error_of h

error_bind : {A B : Type 0} (r : Result A LineFault) (f : A → Result B LineFault) (later : Option LineFault) → ((x : A) → error_of (f x) ≡ later) → error_of (r >>= f) ≡ or_later (error_of r) later
error_bind (Ok x) f later h = h x
error_bind (Err e) f later h = refl

error_last : {A B : Type 0} (r : Result A LineFault) (f : A → Result B LineFault) → ((x : A) → error_of (f x) ≡ None) → error_of (r >>= f) ≡ error_of r
error_last (Ok x) f h = h x
error_last (Err e) f h = refl

or_told : (o later : Option LineFault) (e : LineFault) → or_later o later ≡ Some e → (o ≡ Some e) ⊎ ((o ≡ None) × (later ≡ Some e))
or_told (Some f) later e h = inl h
or_told None later e h = inr (refl, h)

err_same : {A : Type 0} (g e : LineFault) → ◌≡◌ {A = Result A LineFault} (Err g) (Err e) → g ≡ e
err_same g e h = cc

bind_err : {A B : Type 0} (r : Result A LineFault) (f : A → Result B LineFault) (e : LineFault) → (r >>= f) ≡ Err e → (r ≡ Err e) ⊎ ((x : A) × (r ≡ Ok x) × (f x ≡ Err e))
bind_err (Ok x) f e h = inr (x, refl, h)
bind_err (Err g) f e h = inl (ap Err (err_same g e h))

-- a number
numeral_bad_of : (word : List ℕ) (r : Result ℕ NumberFault) (e : LineFault) → number_of word ≡ r → number_or_fault r ≡ Err e → (IsNoNumeral word × (e ≡ B3)) ⊎ (IsTooLarge word × (e ≡ B4))
numeral_bad_of word (Ok n) e is h = absurd cc
numeral_bad_of word (Err NotANumber) e is h = inl (is, sym (err_same B3 e h))
numeral_bad_of word (Err TooLarge) e is h = inr (is, sym (err_same B4 e h))

numeral_bad : (word : List ℕ) (e : LineFault) → numeral_of word ≡ Err e → (IsNoNumeral word × (e ≡ B3)) ⊎ (IsTooLarge word × (e ≡ B4))
numeral_bad word e h = numeral_bad_of word (number_of word) e refl h

bad_numeral : (word : List ℕ) (e : LineFault) → (IsNoNumeral word × (e ≡ B3)) ⊎ (IsTooLarge word × (e ≡ B4)) → numeral_of word ≡ Err e
bad_numeral word e (inl (not, is)) = rw (not, is) refl
bad_numeral word e (inr (large, is)) = rw (large, is) refl

-- a list of numbers
numerals_bad : (words : List (List ℕ)) (e : LineFault) → numerals_of words ≡ Err e → AreBadNumerals words e
numerals_bad [] e h = absurd cc
numerals_bad (word ∷ words) e h = elim (bind_err (numeral_of word) _ e h) [
  | inl wrong ↦ inl (numeral_bad word e wrong)
  | inr first ↦ elim (bind_err (numerals_of words) _ e first.2) [
    | inl later ↦ inr ((first.0, numeral_spelled word first.0 first.1), numerals_bad words e later)
    | inr others ↦ absurd (err_ok e (first.0 ∷ others.0) (sym others.2))
  ]
]

bad_numerals : (words : List (List ℕ)) (e : LineFault) → AreBadNumerals words e → numerals_of words ≡ Err e
bad_numerals [] e h = absurd h
bad_numerals (word ∷ words) e (inl wrong) = let read = bad_numeral word e wrong in rw read refl
bad_numerals (word ∷ words) e (inr ((n, is), more)) =
    let read = numeral_read word n is in
    let later = bad_numerals words e more in
    rw (read, later) refl

-- a delta
delta_bad_of : (word : List ℕ) (r : Result ℤ NumberFault) (e : LineFault) → signed_of word ≡ r → number_or_fault r ≡ Err e → (IsNoDelta word × (e ≡ B3)) ⊎ (IsDeltaTooLarge word × (e ≡ B4))
delta_bad_of word (Ok z) e is h = absurd cc
delta_bad_of word (Err NotANumber) e is h = inl (is, sym (err_same B3 e h))
delta_bad_of word (Err TooLarge) e is h = inr (is, sym (err_same B4 e h))

bad_delta : (word : List ℕ) (e : LineFault) → (IsNoDelta word × (e ≡ B3)) ⊎ (IsDeltaTooLarge word × (e ≡ B4)) → delta_of word ≡ Err e
bad_delta word e (inl (not, is)) = rw (not, is) refl
bad_delta word e (inr (large, is)) = rw (large, is) refl

-- an end of an item
end_none : (word : List ℕ) (e : LineFault) → end_of word ≡ Err e → (end : End) → word ≢ end_word end
end_none word e h end is = let read : Err e ≡ Ok end = sym h ∙ (ap end_of is ∙ end_read end) in absurd cc

end_bad : (word : List ℕ) (e : LineFault) → end_of word ≡ Err e → ((end : End) → word ≢ end_word end) × (e ≡ B1)
end_bad word e h = elim (chosen (bytes_eq word (codes "head")) _ _ (Err e) h) [
  | inl head ↦ absurd cc
  | inr other ↦ elim (chosen (bytes_eq word (codes "tail")) _ _ (Err e) other.1) [
    | inl tail ↦ absurd cc
    | inr none ↦ (end_none word e h, sym (err_same B1 e none.1))
  ]
]

bad_end : (word : List ℕ) (e : LineFault) → ((end : End) → word ≢ end_word end) × (e ≡ B1) → end_of word ≡ Err e
bad_end word e (none, is) = by (end_of word) refl
  where
    by : (r : Result End LineFault) → end_of word ≡ r → end_of word ≡ Err e
    by (Ok end) read = absurd (none end (end_spelled word end read))
    by (Err f) read = let same = (end_bad word f read).1 in read ∙ ap Err (same ∙ sym is)

-- a word that must be this one
given_bad : (given word : List ℕ) (e : LineFault) → given_of given word ≡ Err e → (word ≢ given) × (e ≡ B1)
given_bad given word e h = elim (chosen (bytes_eq word given) _ _ (Err e) h) [
  | inl same ↦ absurd cc
  | inr other ↦ (λ is. let read : Err e ≡ Ok tt = sym h ∙ given_read given word is in absurd cc, sym (err_same B1 e other.1))
]

bad_given : (given word : List ℕ) (e : LineFault) → (word ≢ given) × (e ≡ B1) → given_of given word ≡ Err e
bad_given given word e (none, is) = by (given_of given word) refl
  where
    by : (r : Result (Unit {0}) LineFault) → given_of given word ≡ r → given_of given word ≡ Err e
    by (Ok x) read = absurd (none (given_spelled given word x read))
    by (Err f) read = let same = (given_bad given word f read).1 in read ∙ ap Err (same ∙ sym is)

-- a track
track_bad : (word : List ℕ) (e : LineFault) → track_of word ≡ Err e → IsBadTrack word e
track_bad word e h = elim (bind_err (numeral_of word) _ e h) [
  | inl wrong ↦ elim (numeral_bad word e wrong) [
    | inl not ↦ inl not
    | inr large ↦ inr (inl large.0, large.1)
  ]
  | inr number ↦ elim (chosen (nat_le number.0 31) _ _ (Err e) number.2) [
    | inl low ↦ absurd cc
    | inr high ↦ inr (inr (number.0, numeral_spelled word number.0 number.1, leb-false number.0 31 high.0), sym (err_same B4 e high.1))
  ]
]

bad_track : (word : List ℕ) (e : LineFault) → IsBadTrack word e → track_of word ≡ Err e
bad_track word e (inl not) = let read = bad_numeral word e (inl not) in rw read refl
bad_track word e (inr (inl large, is)) = let read = bad_numeral word e (inr (large, is)) in rw read refl
bad_track word e (inr (inr (n, number, past), is)) =
    let read = numeral_read word n number in
    let high = lt-leb n 31 past in
    rw (read, high, is) refl

-- a list of tracks
tracks_bad : (words : List (List ℕ)) (least set : ℕ) (e : LineFault) → set_with least set words ≡ Err e → AreBadTracks least words e
tracks_bad [] least set e h = absurd cc
tracks_bad (word ∷ words) least set e h = elim (bind_err (track_of word) _ e h) [
  | inl wrong ↦ inl (track_bad word e wrong)
  | inr track ↦ elim (chosen (nat_le least track.0) _ _ (Err e) track.2) [
    | inl above ↦ inr (track.0, track_spelled word track.0 track.1, inr (leb-true least track.0 above.0, tracks_bad words (track.0 + 1) (set + 2 ^ track.0) e above.1))
    | inr below ↦ inr (track.0, track_spelled word track.0 track.1, inl (leb-false least track.0 below.0, sym (err_same B6 e below.1)))
  ]
]

bad_tracks : (words : List (List ℕ)) (least set : ℕ) (e : LineFault) → AreBadTracks least words e → set_with least set words ≡ Err e
bad_tracks [] least set e h = absurd h
bad_tracks (word ∷ words) least set e (inl wrong) = let read = bad_track word e wrong in rw read refl
bad_tracks (word ∷ words) least set e (inr (track, is, inl (below, fault))) =
    let read = track_read word track is in
    let low = lt-leb least track below in
    rw (read, low, fault) refl
bad_tracks (word ∷ words) least set e (inr (track, is, inr (above, more))) =
    let read = track_read word track is in
    let high = le-leb least track above in
    rw (read, high) (bad_tracks words (track + 1) (set + 2 ^ track) e more)

-- a place
place_bad_of : (place_at : List ℕ → Option ℕ) (word : List ℕ) (r : Result ℕ NumberFault) (label : Option ℕ) (e : LineFault) → number_of word ≡ r → place_at word ≡ label → number_or_label r label ≡ Err e → IsBadPart place_at Place word e
place_bad_of place_at word (Ok n) label e is at h = absurd cc
place_bad_of place_at word (Err TooLarge) label e is at h = inr (is, sym (err_same B4 e h))
place_bad_of place_at word (Err NotANumber) None e is at h = inl ((is, at), sym (err_same B3 e h))
place_bad_of place_at word (Err NotANumber) (Some place) e is at h = absurd cc

bad_place : (place_at : List ℕ → Option ℕ) (word : List ℕ) (e : LineFault) → IsBadPart place_at Place word e → place_of place_at word ≡ Err e
bad_place place_at word e (inl ((not, none), is)) = rw (not, none, is) refl
bad_place place_at word e (inr (large, is)) = rw (large, is) refl

-- a thing
no_numeral : {A : Type 0} (word : List ℕ) (f : ℕ → Result A LineFault) (e : LineFault) → ((n : ℕ) → error_of (f n) ≡ None) → (numeral_of word >>= f) ≡ Err e → (IsNoNumeral word × (e ≡ B3)) ⊎ (IsTooLarge word × (e ≡ B4))
no_numeral word f e always h = elim (bind_err (numeral_of word) f e h) [
  | inl wrong ↦ numeral_bad word e wrong
  | inr number ↦ absurd (none_some e (sym (always number.0) ∙ ap error_of number.2))
]
  where
    none_some : (e : LineFault) → None ≡ Some e → ⊥
    none_some e h = cc

digits_same : (a b : ℕ) (x y : List ℕ) → a ∷ x ≡ b ∷ y → (a ≡ b) × (x ≡ y)
digits_same a b x y h = (cc, cc)

-- the digits behind a sign are one list
one_sign : (sign : ℕ) (digits more : List ℕ) → HasDigits (sign ∷ digits) more → digits ≡ more
one_sign sign digits more (inl media) = (digits_same sign 64 digits more media).1
one_sign sign digits more (inr nest) = (digits_same sign 35 digits more nest).1

thing_wrong : (sign : ℕ) (digits : List ℕ) (e : LineFault) → HasDigits (sign ∷ digits) digits → (IsNoNumeral digits × (e ≡ B3)) ⊎ (IsTooLarge digits × (e ≡ B4)) → (place_at : List ℕ → Option ℕ) → IsBadPart place_at Thing (sign ∷ digits) e
thing_wrong sign digits e signed (inl (not, is)) place_at = inl (λ more other. rw (← one_sign sign digits more other) not, is)
thing_wrong sign digits e signed (inr (large, is)) place_at = inr ((digits, signed, large), is)

not_signed : (sign : ℕ) (digits : List ℕ) → (sign == 64) ≡ false → (sign == 35) ≡ false → (more : List ℕ) → HasDigits (sign ∷ digits) more → ⊥
not_signed sign digits media nest more (inl is) = let same = (digits_same sign 64 digits more is).0 in absurd cc
not_signed sign digits media nest more (inr is) = let same = (digits_same sign 35 digits more is).0 in absurd cc

thing_bad : (place_at : List ℕ → Option ℕ) (word : List ℕ) (e : LineFault) → what_of word ≡ Err e → IsBadPart place_at Thing word e
thing_bad place_at [] e h = inl (none, sym (err_same B3 e h))
  where
    none : (digits : List ℕ) → HasDigits [] digits → IsNoNumeral digits
    none digits (inl is) = absurd cc
    none digits (inr is) = absurd cc
thing_bad place_at (sign ∷ digits) e h = elim (chosen (sign == 64) _ _ (Err e) h) [
  | inl media ↦ thing_wrong sign digits e (inl (ap (λ byte. byte ∷ digits) (eqb-true sign 64 media.0))) (no_numeral digits _ e (λ n. refl) media.1) place_at
  | inr other ↦ elim (chosen (sign == 35) _ _ (Err e) other.1) [
    | inl nest ↦ thing_wrong sign digits e (inr (ap (λ byte. byte ∷ digits) (eqb-true sign 35 nest.0))) (no_numeral digits _ e (λ n. refl) nest.1) place_at
    | inr none ↦ inl (λ more signed. absurd (not_signed sign digits other.0 none.0 more signed), sym (err_same B3 e none.1))
  ]
]

thing_fault : (word digits : List ℕ) (e : LineFault) → HasDigits word digits → (IsNoNumeral digits × (e ≡ B3)) ⊎ (IsTooLarge digits × (e ≡ B4)) → what_of word ≡ Err e
thing_fault word digits e (inl is) wrong = let read = bad_numeral digits e wrong in rw (is, read) refl
thing_fault word digits e (inr is) wrong = let read = bad_numeral digits e wrong in rw (is, read) refl

bad_thing : (place_at : List ℕ → Option ℕ) (word : List ℕ) (e : LineFault) → IsBadPart place_at Thing word e → what_of word ≡ Err e
bad_thing place_at [] e (inl (none, is)) = rw is refl
bad_thing place_at (sign ∷ digits) e (inl (none, is)) = by (sign == 64) (sign == 35) refl refl
  where
    by : (m n : Bool) → (sign == 64) ≡ m → (sign == 35) ≡ n → what_of (sign ∷ digits) ≡ Err e
    by true n media nest =
        let signed : HasDigits (sign ∷ digits) digits = inl (ap (λ byte. byte ∷ digits) (eqb-true sign 64 media)) in
        thing_fault (sign ∷ digits) digits e signed (inl (none digits signed, is))
    by false true media nest =
        let signed : HasDigits (sign ∷ digits) digits = inr (ap (λ byte. byte ∷ digits) (eqb-true sign 35 nest)) in
        thing_fault (sign ∷ digits) digits e signed (inl (none digits signed, is))
    by false false media nest = rw (media, nest, is) refl
bad_thing place_at word e (inr ((digits, signed, large), is)) = thing_fault word digits e signed (inr (large, is))

-- the fault of a word as a part
abbrev part_error : (List ℕ → Option ℕ) → Part → List ℕ → Option LineFault
part_error place_at Number word = error_of (numeral_of word)
part_error place_at Numbers word = error_of (numbers_of word)
part_error place_at Track word = error_of (track_of word)
part_error place_at Tracks word = error_of (tracks_of word)
part_error place_at Place word = error_of (place_of place_at word)
part_error place_at Thing word = error_of (what_of word)
part_error place_at Ending word = error_of (end_of word)
part_error place_at Delta word = error_of (delta_of word)
part_error place_at (Given given) word = error_of (given_of given word)

part_bad : (place_at : List ℕ → Option ℕ) (part : Part) (word : List ℕ) (e : LineFault) → part_error place_at part word ≡ Some e → IsBadPart place_at part word e
part_bad place_at Number word e h = numeral_bad word e (error_told (numeral_of word) e h)
part_bad place_at Numbers word e h = numerals_bad (slice_split is_comma word) e (error_told (numbers_of word) e h)
part_bad place_at Track word e h = track_bad word e (error_told (track_of word) e h)
part_bad place_at Tracks word e h = tracks_bad (slice_split is_comma word) 0 0 e (error_told (tracks_of word) e h)
part_bad place_at Place word e h = place_bad_of place_at word (number_of word) (place_at word) e refl refl (error_told (place_of place_at word) e h)
part_bad place_at Thing word e h = thing_bad place_at word e (error_told (what_of word) e h)
part_bad place_at Ending word e h = end_bad word e (error_told (end_of word) e h)
part_bad place_at Delta word e h = delta_bad_of word (signed_of word) e refl (error_told (delta_of word) e h)
part_bad place_at (Given given) word e h = given_bad given word e (error_told (given_of given word) e h)

bad_part : (place_at : List ℕ → Option ℕ) (part : Part) (word : List ℕ) (e : LineFault) → IsBadPart place_at part word e → part_error place_at part word ≡ Some e
bad_part place_at Number word e h = ap error_of (bad_numeral word e h)
bad_part place_at Numbers word e h = ap error_of (bad_numerals (slice_split is_comma word) e h)
bad_part place_at Track word e h = ap error_of (bad_track word e h)
bad_part place_at Tracks word e h = ap error_of (bad_tracks (slice_split is_comma word) 0 0 e h)
bad_part place_at Place word e h = ap error_of (bad_place place_at word e h)
bad_part place_at Thing word e h = ap error_of (bad_thing place_at word e h)
bad_part place_at Ending word e h = ap error_of (bad_end word e h)
bad_part place_at Delta word e h = ap error_of (bad_delta word e h)
bad_part place_at (Given given) word e h = ap error_of (bad_given given word e h)

part_right : (place_at : List ℕ → Option ℕ) (part : Part) (word : List ℕ) → part_error place_at part word ≡ None → IsPart place_at part word
part_right place_at Number word h = let read = error_none (numeral_of word) h in (read.0, numeral_spelled word read.0 read.1)
part_right place_at Numbers word h = let read = error_none (numbers_of word) h in (read.0, numerals_spelled (slice_split is_comma word) read.0 read.1)
part_right place_at Track word h = let read = error_none (track_of word) h in (read.0, track_spelled word read.0 read.1)
part_right place_at Tracks word h = let read = error_none (tracks_of word) h in (read.0, tracks_spelled word read.0 read.1)
part_right place_at Place word h = let read = error_none (place_of place_at word) h in (read.0, place_spelled place_at word read.0 read.1)
part_right place_at Thing word h = let read = error_none (what_of word) h in (read.0, thing_spelled word read.0 read.1)
part_right place_at Ending word h = let read = error_none (end_of word) h in (read.0, end_spelled word read.0 read.1)
part_right place_at Delta word h = let read = error_none (delta_of word) h in (read.0, delta_spelled word read.0 read.1)
part_right place_at (Given given) word h = let read = error_none (given_of given word) h in given_spelled given word read.0 read.1

right_part : (place_at : List ℕ → Option ℕ) (part : Part) (word : List ℕ) → IsPart place_at part word → part_error place_at part word ≡ None
right_part place_at Number word h = error_read (numeral_of word) h.0 (numeral_read word h.0 h.1)
right_part place_at Numbers word h = error_read (numbers_of word) h.0 (numerals_read (slice_split is_comma word) h.0 h.1)
right_part place_at Track word h = error_read (track_of word) h.0 (track_read word h.0 h.1)
right_part place_at Tracks word h = error_read (tracks_of word) h.0 (tracks_read word h.0 h.1)
right_part place_at Place word h = error_read (place_of place_at word) h.0 (place_read place_at word h.0 h.1)
right_part place_at Thing word h = error_read (what_of word) h.0 (thing_read word h.0 h.1)
right_part place_at Ending word h = error_read (end_of word) h.0 (ap end_of h.1 ∙ end_read h.0)
right_part place_at Delta word h = error_read (delta_of word) h.0 (delta_read word h.0 h.1)
right_part place_at (Given given) word h = error_read (given_of given word) tt (given_read given word h)

-- the first fault of words as a row
abbrev first_error : (List ℕ → Option ℕ) → List Part → List (List ℕ) → Option LineFault
first_error place_at [] words = None
first_error place_at (part ∷ parts) [] = None
first_error place_at (part ∷ parts) (word ∷ words) = or_later (part_error place_at part word) (first_error place_at parts words)

first_bad : (place_at : List ℕ → Option ℕ) (row : List Part) (words : List (List ℕ)) (e : LineFault) → first_error place_at row words ≡ Some e → FirstIsBad place_at row words e
first_bad place_at [] words e h = absurd cc
first_bad place_at (part ∷ parts) [] e h = absurd cc
first_bad place_at (part ∷ parts) (word ∷ words) e h = elim (or_told (part_error place_at part word) (first_error place_at parts words) e h) [
  | inl here ↦ inl (part_bad place_at part word e here)
  | inr later ↦ inr (part_right place_at part word later.0, first_bad place_at parts words e later.1)
]

bad_first : (place_at : List ℕ → Option ℕ) (row : List Part) (words : List (List ℕ)) (e : LineFault) → FirstIsBad place_at row words e → first_error place_at row words ≡ Some e
bad_first place_at [] words e h = absurd h
bad_first place_at (part ∷ parts) [] e h = absurd h
bad_first place_at (part ∷ parts) (word ∷ words) e (inl here) = let error = bad_part place_at part word e here in rw error refl
bad_first place_at (part ∷ parts) (word ∷ words) e (inr (right, later)) =
    let none = right_part place_at part word right in
    rw none (bad_first place_at parts words e later)

-- there are as many words as parts
abbrev as_many : List Part → List (List ℕ) → Bool
as_many [] [] = true
as_many [] (word ∷ words) = false
as_many (part ∷ parts) [] = false
as_many (part ∷ parts) (word ∷ words) = as_many parts words

many_same : (row : List Part) (words : List (List ℕ)) → as_many row words ≡ true → length words ≡ length row
many_same [] [] h = refl
many_same [] (word ∷ words) h = absurd cc
many_same (part ∷ parts) [] h = absurd cc
many_same (part ∷ parts) (word ∷ words) h = let same = many_same parts words h in omega (arith, same)

many_other : (row : List Part) (words : List (List ℕ)) → as_many row words ≡ false → length words ≢ length row
many_other [] [] h = absurd cc
many_other [] (word ∷ words) h = λ same. omega (arith, same)
many_other (part ∷ parts) [] h = λ same. omega (arith, same)
many_other (part ∷ parts) (word ∷ words) h = λ same. many_other parts words h (omega (arith, same))

same_many : (row : List Part) (words : List (List ℕ)) (b : Bool) → as_many row words ≡ b → length words ≡ length row → as_many row words ≡ true
same_many row words true is h = is
same_many row words false is h = absurd (many_other row words is h)

other_many : (row : List Part) (words : List (List ℕ)) (b : Bool) → as_many row words ≡ b → length words ≢ length row → as_many row words ≡ false
other_many row words true is h = absurd (h (many_same row words is))
other_many row words false is h = is

abbrev rows_error : (List ℕ → Option ℕ) → List (List Part) → List (List ℕ) → Option LineFault
rows_error place_at [] words = Some B2
rows_error place_at (row ∷ rows) words = if as_many row words then first_error place_at row words else rows_error place_at rows words

rows_bad : (place_at : List ℕ → Option ℕ) (rows : List (List Part)) (words : List (List ℕ)) (e : LineFault) → rows_error place_at rows words ≡ Some e → AreNoRow place_at rows words e
rows_bad place_at [] words e h = sym (some_same B2 e h)
rows_bad place_at (row ∷ rows) words e h = elim (chosen (as_many row words) _ _ (Some e) h) [
  | inl many ↦ inl (many_same row words many.0, first_bad place_at row words e many.1)
  | inr other ↦ inr (many_other row words other.0, rows_bad place_at rows words e other.1)
]

bad_rows : (place_at : List ℕ → Option ℕ) (rows : List (List Part)) (words : List (List ℕ)) (e : LineFault) → AreNoRow place_at rows words e → rows_error place_at rows words ≡ Some e
bad_rows place_at [] words e h = rw h refl
bad_rows place_at (row ∷ rows) words e (inl (many, first)) =
    let same = same_many row words (as_many row words) refl many in
    rw same (bad_first place_at row words e first)
bad_rows place_at (row ∷ rows) words e (inr (other, more)) =
    let not = other_many row words (as_many row words) refl other in
    rw not (bad_rows place_at rows words e more)

-- the fault that is told of words is that of the table

-- the word behind a row
kept_error : {A : Type 0} (word : List ℕ) (f : Bool → Result A LineFault) → ((keep : Bool) → error_of (f keep) ≡ None) → error_of (keep_of (word ∷ []) >>= f) ≡ or_later (error_of (given_of (codes "keep") word)) None
kept_error word f h = error_last (keep_of (word ∷ [])) f h ∙ error_bind (given_of (codes "keep") word) _ None (λ given. refl)

overwrite_error : (place_at : List ℕ → Option ℕ) (words : List (List ℕ)) → error_of (overwrite_of place_at words) ≡ rows_error place_at (rows_of first_word.Overwrite words) words
overwrite_error place_at [] = refl
overwrite_error place_at (a ∷ []) = refl
overwrite_error place_at (a ∷ b ∷ []) = refl
overwrite_error place_at (a ∷ b ∷ c ∷ []) = refl
overwrite_error place_at (a ∷ b ∷ c ∷ d ∷ []) = refl
overwrite_error place_at (a ∷ b ∷ c ∷ d ∷ e ∷ []) =
    error_bind (track_of a) _ _ (λ track. error_bind (place_of place_at b) _ _ (λ at. error_bind (what_of c) _ _ (λ what. error_bind (numeral_of d) _ _ (λ from. error_bind (numeral_of e) _ _ (λ len. refl)))))
overwrite_error place_at (a ∷ b ∷ c ∷ d ∷ e ∷ f ∷ []) =
    error_bind (track_of a) _ _ (λ track. error_bind (place_of place_at b) _ _ (λ at. error_bind (what_of c) _ _ (λ what. error_bind (numeral_of d) _ _ (λ from. error_bind (numeral_of e) _ _ (λ len. kept_error f _ (λ keep. refl))))))
overwrite_error place_at (a ∷ b ∷ c ∷ d ∷ e ∷ f ∷ g ∷ words) = let many = too_many 1 (f ∷ g ∷ words) (omega arith) in rw many refl

insert_error : (place_at : List ℕ → Option ℕ) (words : List (List ℕ)) → error_of (insert_of place_at words) ≡ rows_error place_at (rows_of first_word.Insert words) words
insert_error place_at [] = refl
insert_error place_at (a ∷ []) = refl
insert_error place_at (a ∷ b ∷ []) = refl
insert_error place_at (a ∷ b ∷ c ∷ []) = refl
insert_error place_at (a ∷ b ∷ c ∷ d ∷ []) = refl
insert_error place_at (a ∷ b ∷ c ∷ d ∷ e ∷ []) = refl
insert_error place_at (a ∷ b ∷ c ∷ d ∷ e ∷ f ∷ []) =
    error_bind (tracks_of a) _ _ (λ tracks. error_bind (track_of b) _ _ (λ track. error_bind (place_of place_at c) _ _ (λ at. error_bind (what_of d) _ _ (λ what. error_bind (numeral_of e) _ _ (λ from. error_bind (numeral_of f) _ _ (λ len. refl))))))
insert_error place_at (a ∷ b ∷ c ∷ d ∷ e ∷ f ∷ g ∷ []) =
    error_bind (tracks_of a) _ _ (λ tracks. error_bind (track_of b) _ _ (λ track. error_bind (place_of place_at c) _ _ (λ at. error_bind (what_of d) _ _ (λ what. error_bind (numeral_of e) _ _ (λ from. error_bind (numeral_of f) _ _ (λ len. kept_error g _ (λ keep. refl)))))))
insert_error place_at (a ∷ b ∷ c ∷ d ∷ e ∷ f ∷ g ∷ h ∷ words) = let many = too_many 1 (g ∷ h ∷ words) (omega arith) in rw many refl

-- how much is filled
unfilled_error : {A : Type 0} (how : List ℕ) (f : FillLength × Bool → Result A LineFault) → ((filled : FillLength × Bool) → error_of (f filled) ≡ None)
    → error_of (filled_of how [] >>= f) ≡ or_later (error_of (given_of (codes "sequence") how)) None
unfilled_error how f h = error_last (filled_of how []) f h ∙ error_bind (given_of (codes "sequence") how) _ None (λ given. refl)

whole_error : {A : Type 0} (how last : List ℕ) (f : FillLength × Bool → Result A LineFault) → ((filled : FillLength × Bool) → error_of (f filled) ≡ None) → bytes_eq how (codes "sequence") ≡ true
    → error_of (filled_of how (last ∷ []) >>= f) ≡ or_later (error_of (given_of (codes "sequence") how)) (or_later (error_of (given_of (codes "keep") last)) None)
whole_error how last f h is = error_last (filled_of how (last ∷ [])) f h ∙ rw is (kept_error last _ (λ keep. refl))

some_error : {A : Type 0} (how last : List ℕ) (f : FillLength × Bool → Result A LineFault) → ((filled : FillLength × Bool) → error_of (f filled) ≡ None) → bytes_eq how (codes "sequence") ≡ false
    → error_of (filled_of how (last ∷ []) >>= f) ≡ or_later (error_of (given_of (codes "source") how)) (or_later (error_of (numeral_of last)) None)
some_error how last f h is =
    error_last (filled_of how (last ∷ [])) f h ∙ rw is (error_bind (given_of (codes "source") how) _ _ (λ given. error_bind (numeral_of last) _ None (λ n. refl)))

kept_some_error : {A : Type 0} (how len last : List ℕ) (f : FillLength × Bool → Result A LineFault) → ((filled : FillLength × Bool) → error_of (f filled) ≡ None)
    → error_of (filled_of how (len ∷ last ∷ []) >>= f) ≡ or_later (error_of (given_of (codes "source") how)) (or_later (error_of (numeral_of len)) (or_later (error_of (given_of (codes "keep") last)) None))
kept_some_error how len last f h =
    error_last (filled_of how (len ∷ last ∷ [])) f h
    ∙ error_bind (given_of (codes "source") how) _ _ (λ given. error_bind (numeral_of len) _ _ (λ n. kept_error last _ (λ keep. refl)))

-- by whether its fifth word is `sequence`
fill_error_by : (place_at : List ℕ → Option ℕ) (a b c d e : List ℕ) (rest : List (List ℕ)) (whole : Bool) → bytes_eq e (codes "sequence") ≡ whole
    → error_of (fill_of place_at (a ∷ b ∷ c ∷ d ∷ e ∷ rest)) ≡ rows_error place_at (fill_rows whole) (a ∷ b ∷ c ∷ d ∷ e ∷ rest)
fill_error_by place_at a b c d e [] true is =
    error_bind (track_of a) _ _ (λ track. error_bind (place_of place_at b) _ _ (λ at. error_bind (what_of c) _ _ (λ what. error_bind (numeral_of d) _ _ (λ from. unfilled_error e _ (λ filled. refl)))))
fill_error_by place_at a b c d e [] false is =
    error_bind (track_of a) _ _ (λ track. error_bind (place_of place_at b) _ _ (λ at. error_bind (what_of c) _ _ (λ what. error_bind (numeral_of d) _ _ (λ from. unfilled_error e _ (λ filled. refl)))))
fill_error_by place_at a b c d e (f ∷ []) true is =
    error_bind (track_of a) _ _ (λ track. error_bind (place_of place_at b) _ _ (λ at. error_bind (what_of c) _ _ (λ what. error_bind (numeral_of d) _ _ (λ from. whole_error e f _ (λ filled. refl) is))))
fill_error_by place_at a b c d e (f ∷ []) false is =
    error_bind (track_of a) _ _ (λ track. error_bind (place_of place_at b) _ _ (λ at. error_bind (what_of c) _ _ (λ what. error_bind (numeral_of d) _ _ (λ from. some_error e f _ (λ filled. refl) is))))
fill_error_by place_at a b c d e (f ∷ g ∷ []) true is =
    error_bind (track_of a) _ _ (λ track. error_bind (place_of place_at b) _ _ (λ at. error_bind (what_of c) _ _ (λ what. error_bind (numeral_of d) _ _ (λ from. kept_some_error e f g _ (λ filled. refl)))))
fill_error_by place_at a b c d e (f ∷ g ∷ []) false is =
    error_bind (track_of a) _ _ (λ track. error_bind (place_of place_at b) _ _ (λ at. error_bind (what_of c) _ _ (λ what. error_bind (numeral_of d) _ _ (λ from. kept_some_error e f g _ (λ filled. refl)))))
fill_error_by place_at a b c d e (f ∷ g ∷ h ∷ words) true is = let many = too_many 2 (f ∷ g ∷ h ∷ words) (omega arith) in rw many refl
fill_error_by place_at a b c d e (f ∷ g ∷ h ∷ words) false is = let many = too_many 2 (f ∷ g ∷ h ∷ words) (omega arith) in rw many refl

fill_error : (place_at : List ℕ → Option ℕ) (words : List (List ℕ)) → error_of (fill_of place_at words) ≡ rows_error place_at (rows_of first_word.Fill words) words
fill_error place_at [] = refl
fill_error place_at (a ∷ []) = refl
fill_error place_at (a ∷ b ∷ []) = refl
fill_error place_at (a ∷ b ∷ c ∷ []) = refl
fill_error place_at (a ∷ b ∷ c ∷ d ∷ []) = refl
fill_error place_at (a ∷ b ∷ c ∷ d ∷ e ∷ rest) = fill_error_by place_at a b c d e rest (bytes_eq e (codes "sequence")) refl

-- `link` has not as many items as tracks
abbrev uneven_of : Result ℕ LineFault → Result (List ℕ) LineFault → Option LineFault
uneven_of (Ok set) (Ok items) = if nat_eq (length items) (length (tracks_in set)) then None else Some B2
uneven_of (Ok set) (Err e) = None
uneven_of (Err e) items = None

abbrev uneven_words : List (List ℕ) → Option LineFault
uneven_words (list ∷ numbers ∷ []) = uneven_of (tracks_of list) (numbers_of numbers)
uneven_words words = None

abbrev uneven_error : List ℕ → List (List ℕ) → Option LineFault
uneven_error first words = if bytes_eq first (codes "link") then uneven_words words else None

alone : (r : Result Line LineFault) (o : Option LineFault) → error_of r ≡ o → error_of r ≡ or_later o None
alone r None h = h
alone r (Some e) h = h

even_error : (b : Bool) (line : Line) → error_of (if b then Ok line else Err B2) ≡ (if b then None else Some B2)
even_error true line = refl
even_error false line = refl

link_parts : (r : Result ℕ LineFault) (s : Result (List ℕ) LineFault)
    → error_of (r >>= (λ tracks. s >>= (λ items. if nat_eq (length items) (length (tracks_in tracks)) then Ok (edit (call.Link3 (record { tracks = tracks; items = items }))) else Err B2)))
    ≡ or_later (or_later (error_of r) (or_later (error_of s) None)) (uneven_of r s)
link_parts (Ok set) (Ok items) = even_error (nat_eq (length items) (length (tracks_in set))) _
link_parts (Ok set) (Err e) = refl
link_parts (Err e) s = refl

link_error : (place_at : List ℕ → Option ℕ) (words : List (List ℕ))
    → error_of (link_of words) ≡ or_later (rows_error place_at (rows_of first_word.Link words) words) (uneven_words words)
link_error place_at [] = refl
link_error place_at (a ∷ []) = refl
link_error place_at (a ∷ b ∷ []) = link_parts (tracks_of a) (numbers_of b)
link_error place_at (a ∷ b ∷ c ∷ words) = refl

uneven_parts : (list numbers : List ℕ) (r : Result ℕ LineFault) (s : Result (List ℕ) LineFault) (e : LineFault) → tracks_of list ≡ r → numbers_of numbers ≡ s
    → uneven_of r s ≡ Some e → AreUneven (list ∷ numbers ∷ []) e
uneven_parts list numbers (Ok set) (Ok items) e is are h = elim (chosen (nat_eq (length items) (length (tracks_in set))) _ _ (Some e) h) [
  | inl even ↦ absurd cc
  | inr uneven ↦ (
    set,
    items,
    tracks_spelled list set is,
    numerals_spelled (slice_split is_comma numbers) items are,
    eqb-false (length items) (length (tracks_in set)) uneven.0,
    sym (some_same B2 e uneven.1),
  )
]
uneven_parts list numbers (Ok set) (Err f) e is are h = absurd cc
uneven_parts list numbers (Err f) s e is are h = absurd cc

uneven_bad : (first : List ℕ) (words : List (List ℕ)) (e : LineFault) → uneven_error first words ≡ Some e → (first ≡ codes "link") × AreUneven words e
uneven_bad first words e h = elim (chosen (bytes_eq first (codes "link")) _ _ (Some e) h) [
  | inl link ↦ ((bytes_eq-Decides first (codes "link")).0 link.0, of_words words link.1)
  | inr other ↦ absurd cc
]
  where
    of_words : (words : List (List ℕ)) → uneven_words words ≡ Some e → AreUneven words e
    of_words [] h = absurd cc
    of_words (a ∷ []) h = absurd cc
    of_words (a ∷ b ∷ []) h = uneven_parts a b (tracks_of a) (numbers_of b) e refl refl h
    of_words (a ∷ b ∷ c ∷ words) h = absurd cc

bad_uneven : (words : List (List ℕ)) (e : LineFault) → AreUneven words e → link_of words ≡ Err e
bad_uneven [] e h = absurd h
bad_uneven (a ∷ []) e h = absurd h
bad_uneven (a ∷ b ∷ []) e (set, items, is_tracks, are_numbers, uneven, is) =
    let tracks = tracks_read a set is_tracks in
    let numbers = numerals_read (slice_split is_comma b) items are_numbers in
    let count = ne_eqb (length items) (length (tracks_in set)) uneven in
    rw (tracks, numbers, count, is) refl
bad_uneven (a ∷ b ∷ c ∷ words) e h = absurd h

row_error : (place_at : List ℕ → Option ℕ) (k : FirstWord) (words : List (List ℕ)) → error_of (row_of place_at k words) ≡ or_later (rows_error place_at (rows_of k words) words) (uneven_error (word_of k) words)
row_error place_at first_word.Overwrite words = alone _ _ (overwrite_error place_at words)
row_error place_at first_word.Insert words = alone _ _ (insert_error place_at words)
row_error place_at first_word.Remove [] = refl
row_error place_at first_word.Remove (a ∷ []) = refl
row_error place_at first_word.Remove (a ∷ b ∷ []) = alone _ _ (error_bind (track_of a) _ _ (λ track. error_bind (numeral_of b) _ _ (λ item. refl)))
row_error place_at first_word.Remove (a ∷ b ∷ c ∷ []) = alone _ _ (error_bind (track_of a) _ _ (λ track. error_bind (numeral_of b) _ _ (λ item. kept_error c _ (λ keep. refl))))
row_error place_at first_word.Remove (a ∷ b ∷ c ∷ d ∷ words) = let many = too_many 1 (c ∷ d ∷ words) (omega arith) in rw many refl
row_error place_at first_word.Extract [] = refl
row_error place_at first_word.Extract (a ∷ []) = refl
row_error place_at first_word.Extract (a ∷ b ∷ []) = refl
row_error place_at first_word.Extract (a ∷ b ∷ c ∷ []) = alone _ _ (error_bind (tracks_of a) _ _ (λ tracks. error_bind (track_of b) _ _ (λ track. error_bind (numeral_of c) _ _ (λ item. refl))))
row_error place_at first_word.Extract (a ∷ b ∷ c ∷ d ∷ []) =
    alone _ _ (error_bind (tracks_of a) _ _ (λ tracks. error_bind (track_of b) _ _ (λ track. error_bind (numeral_of c) _ _ (λ item. kept_error d _ (λ keep. refl)))))
row_error place_at first_word.Extract (a ∷ b ∷ c ∷ d ∷ e ∷ words) = let many = too_many 1 (d ∷ e ∷ words) (omega arith) in rw many refl
row_error place_at first_word.Slice [] = refl
row_error place_at first_word.Slice (a ∷ []) = refl
row_error place_at first_word.Slice (a ∷ b ∷ []) = alone _ _ (error_bind (track_of a) _ _ (λ track. error_bind (place_of place_at b) _ _ (λ at. refl)))
row_error place_at first_word.Slice (a ∷ b ∷ c ∷ []) = alone _ _ (error_bind (track_of a) _ _ (λ track. error_bind (place_of place_at b) _ _ (λ at. kept_error c _ (λ keep. refl))))
row_error place_at first_word.Slice (a ∷ b ∷ c ∷ d ∷ words) = let many = too_many 1 (c ∷ d ∷ words) (omega arith) in rw many refl
row_error place_at first_word.Dissolve [] = refl
row_error place_at first_word.Dissolve (a ∷ []) = refl
row_error place_at first_word.Dissolve (a ∷ b ∷ []) = refl
row_error place_at first_word.Dissolve (a ∷ b ∷ c ∷ []) = refl
row_error place_at first_word.Dissolve (a ∷ b ∷ c ∷ d ∷ []) =
    alone _ _ (error_bind (track_of a) _ _ (λ track. error_bind (place_of place_at b) _ _ (λ at. error_bind (numeral_of c) _ _ (λ before. error_bind (numeral_of d) _ _ (λ after. refl)))))
row_error place_at first_word.Dissolve (a ∷ b ∷ c ∷ d ∷ e ∷ words) = refl
row_error place_at first_word.Undissolve [] = refl
row_error place_at first_word.Undissolve (a ∷ []) = refl
row_error place_at first_word.Undissolve (a ∷ b ∷ []) = alone _ _ (error_bind (track_of a) _ _ (λ track. error_bind (place_of place_at b) _ _ (λ at. refl)))
row_error place_at first_word.Undissolve (a ∷ b ∷ c ∷ words) = refl
row_error place_at first_word.Trim [] = refl
row_error place_at first_word.Trim (a ∷ []) = refl
row_error place_at first_word.Trim (a ∷ b ∷ []) = refl
row_error place_at first_word.Trim (a ∷ b ∷ c ∷ []) = refl
row_error place_at first_word.Trim (a ∷ b ∷ c ∷ d ∷ []) =
    alone _ _ (error_bind (track_of a) _ _ (λ track. error_bind (numeral_of b) _ _ (λ item. error_bind (end_of c) _ _ (λ end. error_bind (delta_of d) _ _ (λ delta. refl)))))
row_error place_at first_word.Trim (a ∷ b ∷ c ∷ d ∷ e ∷ words) = refl
row_error place_at first_word.Slip [] = refl
row_error place_at first_word.Slip (a ∷ []) = refl
row_error place_at first_word.Slip (a ∷ b ∷ []) = refl
row_error place_at first_word.Slip (a ∷ b ∷ c ∷ []) = refl
row_error place_at first_word.Slip (a ∷ b ∷ c ∷ d ∷ []) =
    alone _ _ (error_bind (tracks_of a) _ _ (λ tracks. error_bind (track_of b) _ _ (λ track. error_bind (numeral_of c) _ _ (λ item. error_bind (delta_of d) _ _ (λ delta. refl)))))
row_error place_at first_word.Slip (a ∷ b ∷ c ∷ d ∷ e ∷ words) = refl
row_error place_at first_word.Roll [] = refl
row_error place_at first_word.Roll (a ∷ []) = refl
row_error place_at first_word.Roll (a ∷ b ∷ []) = refl
row_error place_at first_word.Roll (a ∷ b ∷ c ∷ []) = alone _ _ (error_bind (track_of a) _ _ (λ track. error_bind (place_of place_at b) _ _ (λ at. error_bind (delta_of c) _ _ (λ delta. refl))))
row_error place_at first_word.Roll (a ∷ b ∷ c ∷ d ∷ words) = refl
row_error place_at first_word.Slide [] = refl
row_error place_at first_word.Slide (a ∷ []) = refl
row_error place_at first_word.Slide (a ∷ b ∷ []) = refl
row_error place_at first_word.Slide (a ∷ b ∷ c ∷ []) = refl
row_error place_at first_word.Slide (a ∷ b ∷ c ∷ d ∷ []) =
    alone _ _ (error_bind (tracks_of a) _ _ (λ tracks. error_bind (track_of b) _ _ (λ track. error_bind (numeral_of c) _ _ (λ item. error_bind (delta_of d) _ _ (λ delta. refl)))))
row_error place_at first_word.Slide (a ∷ b ∷ c ∷ d ∷ e ∷ words) = refl
row_error place_at first_word.Fill words = alone _ _ (fill_error place_at words)
row_error place_at first_word.Ripple [] = refl
row_error place_at first_word.Ripple (a ∷ []) = refl
row_error place_at first_word.Ripple (a ∷ b ∷ []) = refl
row_error place_at first_word.Ripple (a ∷ b ∷ c ∷ []) = refl
row_error place_at first_word.Ripple (a ∷ b ∷ c ∷ d ∷ []) = refl
row_error place_at first_word.Ripple (a ∷ b ∷ c ∷ d ∷ e ∷ []) =
    alone _ _ (error_bind (tracks_of a) _ _ (λ tracks. error_bind (track_of b) _ _ (λ track. error_bind (numeral_of c) _ _ (λ item. error_bind (end_of d) _ _ (λ end. error_bind (delta_of e) _ _ (λ delta. refl))))))
row_error place_at first_word.Ripple (a ∷ b ∷ c ∷ d ∷ e ∷ f ∷ words) = refl
row_error place_at first_word.Link words = link_error place_at words
row_error place_at first_word.Unlink [] = refl
row_error place_at first_word.Unlink (a ∷ []) = refl
row_error place_at first_word.Unlink (a ∷ b ∷ []) = alone _ _ (error_bind (track_of a) _ _ (λ track. error_bind (numeral_of b) _ _ (λ item. refl)))
row_error place_at first_word.Unlink (a ∷ b ∷ c ∷ words) = refl
row_error place_at first_word.Back [] = refl
row_error place_at first_word.Back (a ∷ []) = alone _ _ (error_bind (tracks_of a) _ _ (λ tracks. refl))
row_error place_at first_word.Back (a ∷ b ∷ words) = refl
row_error place_at first_word.View [] = refl
row_error place_at first_word.View (a ∷ []) = refl
row_error place_at first_word.View (a ∷ b ∷ []) = refl
row_error place_at first_word.View (a ∷ b ∷ c ∷ []) = alone _ _ (error_bind (track_of a) _ _ (λ track. error_bind (place_of place_at b) _ _ (λ from. error_bind (place_of place_at c) _ _ (λ to. refl))))
row_error place_at first_word.View (a ∷ b ∷ c ∷ d ∷ words) = refl
row_error place_at first_word.Items [] = refl
row_error place_at first_word.Items (a ∷ []) = alone _ _ (error_bind (track_of a) _ _ (λ track. refl))
row_error place_at first_word.Items (a ∷ b ∷ words) = refl
row_error place_at first_word.Point [] = refl
row_error place_at first_word.Point (a ∷ words) = refl
row_error place_at first_word.Otio [] = refl
row_error place_at first_word.Otio (a ∷ []) = alone _ _ (error_bind (numeral_of a) _ _ (λ point. refl))
row_error place_at first_word.Otio (a ∷ b ∷ words) = refl
row_error place_at first_word.News [] = refl
row_error place_at first_word.News (a ∷ []) = alone _ _ (error_bind (numeral_of a) _ _ (λ place. refl))
row_error place_at first_word.News (a ∷ b ∷ words) = refl

-- the whole line
none_named : (first : List ℕ) → first_word_of first ≡ None → (k : FirstWord) → first ≢ word_of k
none_named first none k = λ same. absurd (none_some k (sym none ∙ (ap first_word_of same ∙ first_read k)))
  where
    none_some : (k : FirstWord) → None ≡ Some k → ⊥
    none_some k h = cc

named_none : (first : List ℕ) (o : Option FirstWord) → first_word_of first ≡ o → ((k : FirstWord) → first ≢ word_of k) → first_word_of first ≡ None
named_none first None is none = is
named_none first (Some k) is none = absurd (none k (first_spelled first k is))

if_bad : (place_at : List ℕ → Option ℕ) (first : List ℕ) (o : Option FirstWord) (words : List (List ℕ)) (e : LineFault) → first_word_of first ≡ o → row_if place_at o words ≡ Err e → AreBad place_at (first ∷ words) e
if_bad place_at first None words e is h = inl (none_named first is, sym (err_same B1 e h))
if_bad place_at first (Some k) words e is h =
    let same = first_spelled first k is in
    elim (or_told (rows_error place_at (rows_of k words) words) (uneven_error (word_of k) words) e (sym (row_error place_at k words) ∙ ap error_of h)) [
      | inl here ↦ inr (inl (k, same, rows_bad place_at (rows_of k words) words e here))
      | inr later ↦ let uneven = uneven_bad (word_of k) words e later.1 in inr (inr (same ∙ uneven.0, uneven.1))
    ]

words_bad : (place_at : List ℕ → Option ℕ) (words : List (List ℕ)) (e : LineFault) → line_of_words place_at words ≡ Err e → AreBad place_at words e
words_bad place_at [] e h = sym (err_same B2 e h)
words_bad place_at (first ∷ words) e h = if_bad place_at first (first_word_of first) words e refl h

bad_words : (place_at : List ℕ → Option ℕ) (words : List (List ℕ)) (e : LineFault) → AreBad place_at words e → line_of_words place_at words ≡ Err e
bad_words place_at [] e h = rw h refl
bad_words place_at (first ∷ words) e (inl (none, is)) = let no = named_none first (first_word_of first) refl none in rw (no, is) refl
bad_words place_at (first ∷ words) e (inr (inl (k, same, more))) =
    let named : first_word_of first ≡ Some k = ap first_word_of same ∙ first_read k in
    let here : or_later (rows_error place_at (rows_of k words) words) (uneven_error (word_of k) words) ≡ Some e = rw (bad_rows place_at (rows_of k words) words e more) refl in
    let read = error_told (row_of place_at k words) e (row_error place_at k words ∙ here) in
    rw (named, read) refl
bad_words place_at (first ∷ words) e (inr (inr (same, uneven))) =
    let named : first_word_of first ≡ Some first_word.Link = ap first_word_of same in
    let read = bad_uneven words e uneven in
    rw (named, read) refl

pub line_bad : (place_at : List ℕ → Option ℕ) (bytes : List ℕ) (e : LineFault) → line_of place_at bytes ≡ Err e → IsBad place_at bytes e
line_bad place_at bytes e h = elim (chosen (nat_le (length bytes) 1024) _ _ (Err e) h) [
  | inl short ↦ inr (leb-true (length bytes) 1024 short.0, words_bad place_at (words_of bytes) e short.1)
  | inr long ↦ inl (leb-false (length bytes) 1024 long.0, sym (err_same B5 e long.1))
]

pub bad_line : (place_at : List ℕ → Option ℕ) (bytes : List ℕ) (e : LineFault) → IsBad place_at bytes e → line_of place_at bytes ≡ Err e
bad_line place_at bytes e (inl (long, is)) = let over = lt-leb (length bytes) 1024 long in rw (over, is) refl
bad_line place_at bytes e (inr (short, bad)) = let within = le-leb (length bytes) 1024 short in rw within (bad_words place_at (words_of bytes) e bad)

-- a line has one meaning
meaning_of : (place_at : List ℕ → Option ℕ) (bytes : List ℕ) (r : Result Line LineFault) → line_of place_at bytes ≡ r → ((line : Line) × IsLine place_at bytes line) ⊎ ((fault : LineFault) × IsBad place_at bytes fault)
meaning_of place_at bytes (Ok line) is = inl (line, line_spelled place_at bytes line is)
meaning_of place_at bytes (Err fault) is = inr (fault, line_bad place_at bytes fault is)

pub some_meaning : (place_at : List ℕ → Option ℕ) (bytes : List ℕ) → ((line : Line) × IsLine place_at bytes line) ⊎ ((fault : LineFault) × IsBad place_at bytes fault)
some_meaning place_at bytes = meaning_of place_at bytes (line_of place_at bytes) refl

pub one_line : (place_at : List ℕ → Option ℕ) (bytes : List ℕ) (line other : Line) → IsLine place_at bytes line → IsLine place_at bytes other → line ≡ other
one_line place_at bytes line other h k = ok_same line other (sym (line_read place_at bytes line h) ∙ line_read place_at bytes other k)

pub one_fault : (place_at : List ℕ → Option ℕ) (bytes : List ℕ) (fault other : LineFault) → IsBad place_at bytes fault → IsBad place_at bytes other → fault ≡ other
one_fault place_at bytes fault other h k = err_same fault other (sym (bad_line place_at bytes fault h) ∙ bad_line place_at bytes other k)

pub not_both : (place_at : List ℕ → Option ℕ) (bytes : List ℕ) (line : Line) (fault : LineFault) → IsLine place_at bytes line → IsBad place_at bytes fault → ⊥
not_both place_at bytes line fault h k = err_ok fault line (sym (bad_line place_at bytes fault k) ∙ line_read place_at bytes line h)
