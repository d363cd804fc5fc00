-- What is read of a part is spelled there, and what is spelled there is read.
use Rattle.std.proofs.Common.{◌≡◌, ℕ, ℤ, ◌+◌, ◌^◌, ◌<◌, ◌≤◌, ◌⊎◌, List, [], ◌∷◌, Bool, true, false, Option, Some, None, Result, Ok, Err, ◌==◌, nat_le, length, if◌then◌else◌, inl, inr, refl, ap, sym, subst, ◌∙◌, arith, pow_pos, codes}
use Rattle.std.specs.List.{slice_split}
use Rattle.std.proofs.lemmas.Bool.{leb-true, le-leb, lt-leb, eqb-true}
use Rattle.std.proofs.lemmas.List.Splits.{length-slice_split}
use Rattle.std.proofs.lemmas.Slice.Eq.{bytes_eq-Decides}
use Rattle.std.specs.Str.{bytes_eq}
use Rattle.line_words.specs.Digits.{number_of, signed_of}
use Rattle.line_words.specs.declared.numbers.NumberFault.{NumberFault}
use Rattle.line_words.specs.declared.numbers.NumberFault.TheVariants.{NotANumber, TooLarge}
use Rattle.composables.specs.declared.calls.End.{End}
use Rattle.composables.specs.declared.calls.End.TheVariants.{Head, Tail}
use Rattle.composables.specs.declared.calls.FillLength.{FillLength}
use Rattle.composables.specs.declared.calls.FillLength.TheVariants.{Source, Sequence}
use Rattle.frame_meaning.specs.declared.cells.What.{What}
use Rattle.frame_meaning.specs.declared.cells.What.TheVariants.{Media, Nest}
use Rattle.protocol_parts.specs.declared.line_fault.LineFault.{LineFault}
use Rattle.protocol_parts.specs.declared.line_fault.LineFault.TheVariants.{B1, B2, B3, B4, B6}
use Rattle.line_table.specs.Spelling.{◌>>=◌, number_or_fault, numeral_of, numerals_of, delta_of, end_of, given_of, at_most_of, keep_of, filled_of, track_of, is_comma, set_with, tracks_of, place_or_fault, number_or_label, place_of, what_of}
use Rattle.line_table.specs.Table.{AreLength, AreNumerals, IsDelta, IsNumeral, NamesTrack, NamesTracks, IsPlace, IsThing, end_word, keep_words}
use Rattle.line_table.proofs.TrackSets.{AreRising, rising, set_below, spells}

-- what was read first, where all was read
pub bind_ok : {A B : Type 0} (r : Result A LineFault) (f : A → Result B LineFault) (y : B) → (r >>= f) ≡ Ok y → (x : A) × (r ≡ Ok x) × (f x ≡ Ok y)
bind_ok (Ok x) f y h = (x, refl, h)
bind_ok (Err e) f y h = absurd cc

-- which way a test went
pub chosen : {A : Type 0} (b : Bool) (x y z : A) → (if b then x else y) ≡ z → ((b ≡ true) × (x ≡ z)) ⊎ ((b ≡ false) × (y ≡ z))
chosen true x y z h = inl (refl, h)
chosen false x y z h = inr (refl, h)

pub ok_same : {A : Type 0} (x y : A) → ◌≡◌ {A = Result A LineFault} (Ok x) (Ok y) → x ≡ y
ok_same x y h = cc

pub err_ok : {A : Type 0} (e : LineFault) (x : A) → Err e ≡ Ok x → ⊥
err_ok e x h = cc

number_ok : {A : Type 0} (r : Result A NumberFault) (x : A) → number_or_fault r ≡ Ok x → r ≡ Ok x
number_ok (Ok y) x h = ap Ok (ok_same y x h)
number_ok (Err e) x h = absurd cc

pub numeral_spelled : (word : List ℕ) (n : ℕ) → numeral_of word ≡ Ok n → IsNumeral word n
numeral_spelled word n h = number_ok (number_of word) n h

pub numeral_read : (word : List ℕ) (n : ℕ) → IsNumeral word n → numeral_of word ≡ Ok n
numeral_read word n h = ap number_or_fault h

pub delta_spelled : (word : List ℕ) (z : ℤ) → delta_of word ≡ Ok z → IsDelta word z
delta_spelled word z h = number_ok (signed_of word) z h

pub delta_read : (word : List ℕ) (z : ℤ) → IsDelta word z → delta_of word ≡ Ok z
delta_read word z h = ap (λ (r : Result ℤ NumberFault). number_or_fault r) h

pub end_spelled : (word : List ℕ) (end : End) → end_of word ≡ Ok end → word ≡ end_word end
end_spelled word end h = elim (chosen (bytes_eq word (codes "head")) _ _ (Ok end) h) [
  | inl head ↦ let same = ok_same Head end head.1 in rw (← same) ((bytes_eq-Decides word (codes "head")).0 head.0)
  | inr other ↦ elim (chosen (bytes_eq word (codes "tail")) _ _ (Ok end) other.1) [
    | inl tail ↦ let same = ok_same Tail end tail.1 in rw (← same) ((bytes_eq-Decides word (codes "tail")).0 tail.0)
    | inr none ↦ absurd (err_ok B1 end none.1)
  ]
]

pub end_read : (end : End) → end_of (end_word end) ≡ Ok end
end_read Head = refl
end_read Tail = refl

pub given_spelled : (given word : List ℕ) (is : Unit {0}) → given_of given word ≡ Ok is → word ≡ given
given_spelled given word is h = elim (chosen (bytes_eq word given) _ _ (Ok is) h) [
  | inl same ↦ (bytes_eq-Decides word given).0 same.0
  | inr other ↦ absurd (err_ok B1 is other.1)
]

pub given_read : (given word : List ℕ) → word ≡ given → given_of given word ≡ Ok tt
given_read given word h = let same = (bytes_eq-Decides word given).1 h in rw same refl

-- words behind a row, and whether they are few enough
pub few_spelled : (most : ℕ) (words : List (List ℕ)) (few : Unit {0}) → at_most_of most words ≡ Ok few → length words ≤ most
few_spelled most words few h = elim (chosen (nat_le (length words) most) _ _ (Ok few) h) [
  | inl low ↦ leb-true (length words) most low.0
  | inr high ↦ absurd (err_ok B2 few high.1)
]

pub too_many : (most : ℕ) (words : List (List ℕ)) → most < length words → at_most_of most words ≡ Err B2
too_many most words h = let high = lt-leb (length words) most h in rw high refl

-- whether dissolves are kept
pub keep_spelled : (words : List (List ℕ)) (keep : Bool) → length words ≤ 1 → keep_of words ≡ Ok keep → words ≡ keep_words keep
keep_spelled [] keep few h = let same = ok_same false keep h in ap keep_words same
keep_spelled (word ∷ []) keep few h =
    let given = bind_ok (given_of (codes "keep") word) _ keep h in
    let same = ok_same true keep given.2 in
    ap (λ (w : List ℕ). w ∷ []) (given_spelled (codes "keep") word given.0 given.1) ∙ ap keep_words same
keep_spelled (word ∷ other ∷ words) keep few h = absurd (omega (arith, few))

pub keep_read : (keep : Bool) → keep_of (keep_words keep) ≡ Ok keep
keep_read true = refl
keep_read false = refl

pub few_read : (keep : Bool) → at_most_of 1 (keep_words keep) ≡ Ok tt
few_read true = refl
few_read false = refl

-- how much is filled, and whether dissolves are kept
pub filled_spelled : (how : List ℕ) (words : List (List ℕ)) (filled : FillLength × Bool) → length words ≤ 2 → filled_of how words ≡ Ok filled → AreLength (how ∷ words) filled.0 filled.1
filled_spelled how [] filled few h =
    let given = bind_ok (given_of (codes "sequence") how) _ filled h in
    let same = ok_same (Sequence, false) filled given.2 in
    rw (← same) (ap (λ (w : List ℕ). w ∷ []) (given_spelled (codes "sequence") how given.0 given.1))
filled_spelled how (last ∷ []) filled few h = elim (chosen (bytes_eq how (codes "sequence")) _ _ (Ok filled) h) [
  | inl whole ↦
      let keep = bind_ok (keep_of (last ∷ [])) _ filled whole.1 in
      let same = ok_same (Sequence, keep.0) filled keep.2 in
      let words = keep_spelled (last ∷ []) keep.0 (omega arith) keep.1 in
      let word = (bytes_eq-Decides how (codes "sequence")).0 whole.0 in
      rw (← same) (ap (λ (w : List ℕ). w ∷ last ∷ []) word ∙ ap (λ (ws : List (List ℕ)). codes "sequence" ∷ ws) words)
  | inr some ↦
      let given = bind_ok (given_of (codes "source") how) _ filled some.1 in
      let len = bind_ok (numeral_of last) _ filled given.2 in
      let same = ok_same (Source len.0, false) filled len.2 in
      rw (← same) (last, ap (λ (w : List ℕ). w ∷ last ∷ []) (given_spelled (codes "source") how given.0 given.1), numeral_spelled last len.0 len.1)
]
filled_spelled how (word ∷ last ∷ []) filled few h =
    let given = bind_ok (given_of (codes "source") how) _ filled h in
    let len = bind_ok (numeral_of word) _ filled given.2 in
    let keep = bind_ok (keep_of (last ∷ [])) _ filled len.2 in
    let same = ok_same (Source len.0, keep.0) filled keep.2 in
    let words = keep_spelled (last ∷ []) keep.0 (omega arith) keep.1 in
    let source = given_spelled (codes "source") how given.0 given.1 in
    rw (← same) (word, ap (λ (w : List ℕ). w ∷ word ∷ last ∷ []) source ∙ ap (λ (ws : List (List ℕ)). codes "source" ∷ word ∷ ws) words, numeral_spelled word len.0 len.1)
filled_spelled how (a ∷ b ∷ c ∷ words) filled few h = absurd (omega (arith, few))

bounded : (b : Bool) (m n : ℕ) → (if b then Ok m else Err B4) ≡ Ok n → (b ≡ true) × (m ≡ n)
bounded true m n h = (refl, cc)
bounded false m n h = absurd cc

pub track_spelled : (word : List ℕ) (n : ℕ) → track_of word ≡ Ok n → NamesTrack word n
track_spelled word n h =
    let first = bind_ok (numeral_of word) _ n h in
    let low = bounded (nat_le first.0 31) first.0 n first.2 in
    rw (sym low.1) (numeral_spelled word first.0 first.1, leb-true first.0 31 low.0)

pub track_read : (word : List ℕ) (n : ℕ) → NamesTrack word n → track_of word ≡ Ok n
track_read word n h =
    let number = numeral_read word n h.0 in
    let low = le-leb n 31 h.1 in
    rw (number, low) refl

-- the tracks that a list adds to a set
with_spelled : (words : List (List ℕ)) (least set all : ℕ) → set_with least set words ≡ Ok all → (others : ℕ) × (all ≡ set + others) × AreRising least words others
with_spelled [] least set all h = let same = ok_same set all h in (0, omega (arith, same), refl)
with_spelled (word ∷ words) least set all h =
    let track = bind_ok (track_of word) _ all h in
    elim (chosen (nat_le least track.0) _ _ (Ok all) track.2) [
      | inl above ↦
          let more = with_spelled words (track.0 + 1) (set + 2 ^ track.0) all above.1 in
          (2 ^ track.0 + more.0, omega (arith, more.1), (track.0, more.0, track_spelled word track.0 track.1, leb-true least track.0 above.0, refl, more.2))
      | inr below ↦ absurd (err_ok B6 all below.1)
    ]

with_read : (words : List (List ℕ)) (least set others : ℕ) → AreRising least words others → set_with least set words ≡ Ok (set + others)
with_read [] least set others h = let same : set ≡ set + others = omega (arith, h) in ap Ok same
with_read (word ∷ words) least set others (track, rest, is, above, sum, more) =
    let read = track_read word track is in
    let high = le-leb least track above in
    let same : set + 2 ^ track + rest ≡ set + others = omega (arith, sum) in
    rw (read, high) (with_read words (track + 1) (set + 2 ^ track) rest more ∙ ap Ok same)

tracks_rise : (word : List ℕ) (set : ℕ) → tracks_of word ≡ Ok set → AreRising 0 (slice_split is_comma word) set
tracks_rise word set h =
    let more = with_spelled (slice_split is_comma word) 0 0 set h in
    let same : more.0 ≡ set = omega (arith, more.1) in
    subst (AreRising 0 (slice_split is_comma word)) same more.2

pub tracks_spelled : (word : List ℕ) (set : ℕ) → tracks_of word ≡ Ok set → NamesTracks word set
tracks_spelled word set h =
    let rise = tracks_rise word set h in
    let small = set_below (slice_split is_comma word) 0 0 set rise (omega arith) (omega arith) in
    (omega (arith, small), spells (slice_split is_comma word) set rise)

pub tracks_read : (word : List ℕ) (set : ℕ) → NamesTracks word set → tracks_of word ≡ Ok set
tracks_read word set h =
    let same : 0 + set ≡ set = omega arith in
    with_read (slice_split is_comma word) 0 0 set (rising set (slice_split is_comma word) h.0 h.1) ∙ ap Ok same

-- a list has a track, and so has its set
some_tracks : (words : List (List ℕ)) (least set : ℕ) → 0 < length words → AreRising least words set → 0 < set
some_tracks [] least set h k = absurd (omega (arith, h))
some_tracks (word ∷ words) least set h (track, rest, is, above, sum, more) = let one = pow_pos track in omega (arith, sum, one)

pub tracks_some : (word : List ℕ) (set : ℕ) → tracks_of word ≡ Ok set → 0 < set
tracks_some word set h =
    let count = length-slice_split is_comma word in
    some_tracks (slice_split is_comma word) 0 set (omega (arith, count)) (tracks_rise word set h)

-- a list of numbers
pub numerals_spelled : (words : List (List ℕ)) (ns : List ℕ) → numerals_of words ≡ Ok ns → AreNumerals words ns
numerals_spelled [] ns h = let same = ok_same [] ns h in rw (← same) tt
numerals_spelled (word ∷ words) ns h =
    let first = bind_ok (numeral_of word) _ ns h in
    let others = bind_ok (numerals_of words) _ ns first.2 in
    let same = ok_same (first.0 ∷ others.0) ns others.2 in
    rw (← same) (numeral_spelled word first.0 first.1, numerals_spelled words others.0 others.1)

pub numerals_read : (words : List (List ℕ)) (ns : List ℕ) → AreNumerals words ns → numerals_of words ≡ Ok ns
numerals_read [] [] h = refl
numerals_read [] (n ∷ ns) h = absurd h
numerals_read (word ∷ words) [] h = absurd h
numerals_read (word ∷ words) (n ∷ ns) h =
    let first = numeral_read word n h.0 in
    let others = numerals_read words ns h.1 in
    rw (first, others) refl

label_ok : (label : Option ℕ) (n : ℕ) → place_or_fault label ≡ Ok n → label ≡ Some n
label_ok None n h = absurd cc
label_ok (Some m) n h = cc

place_ok : (r : Result ℕ NumberFault) (label : Option ℕ) (n : ℕ) → number_or_label r label ≡ Ok n → (r ≡ Ok n) ⊎ ((r ≡ Err NotANumber) × (label ≡ Some n))
place_ok (Ok m) label n h = inl cc
place_ok (Err TooLarge) label n h = absurd cc
place_ok (Err NotANumber) label n h = inr (refl, label_ok label n h)

pub place_spelled : (place_at : List ℕ → Option ℕ) (word : List ℕ) (n : ℕ) → place_of place_at word ≡ Ok n → IsPlace place_at word n
place_spelled place_at word n h = place_ok (number_of word) (place_at word) n h

pub place_read : (place_at : List ℕ → Option ℕ) (word : List ℕ) (n : ℕ) → IsPlace place_at word n → place_of place_at word ≡ Ok n
place_read place_at word n h = elim h [
  | inl number ↦ rw number refl
  | inr label ↦ rw (label.0, label.1) refl
]

pub thing_spelled : (word : List ℕ) (w : What) → what_of word ≡ Ok w → IsThing word w
thing_spelled [] w h = absurd cc
thing_spelled (sign ∷ digits) w h = elim (chosen (sign == 64) _ _ (Ok w) h) [
  | inl media ↦
      let number = bind_ok (numeral_of digits) _ w media.1 in
      let same = ok_same (Media number.0) w number.2 in
      rw (← same) (digits, ap (λ byte. byte ∷ digits) (eqb-true sign 64 media.0), numeral_spelled digits number.0 number.1)
  | inr other ↦ elim (chosen (sign == 35) _ _ (Ok w) other.1) [
    | inl nest ↦
        let number = bind_ok (numeral_of digits) _ w nest.1 in
        let same = ok_same (Nest number.0) w number.2 in
        rw (← same) (digits, ap (λ byte. byte ∷ digits) (eqb-true sign 35 nest.0), numeral_spelled digits number.0 number.1)
    | inr none ↦ absurd (err_ok B3 w none.1)
  ]
]

pub thing_read : (word : List ℕ) (w : What) → IsThing word w → what_of word ≡ Ok w
thing_read word (Media m) h = let number = numeral_read h.0 m h.2 in rw (h.1, number) refl
thing_read word (Nest n) h = let number = numeral_read h.0 n h.2 in rw (h.1, number) refl
