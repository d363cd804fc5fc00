-- The words of a list, between its commas.
use Rattle.std.proofs.Common.{◌≡◌, ℕ, suc, ◌+◌, ◌*◌, ◌%◌, ◌^◌, ◌<◌, ◌≤◌, Bool, true, false, List, [], ◌∷◌, ◌++◌, Some, None, Result, Ok, Err, length, get_or, take, drop, nat_lt, if◌then◌else◌, refl, sym, ap, ◌∙◌, append_assoc, arith}
use Rattle.std.specs.List.{slice_split, position, All}
use Rattle.std.proofs.Math.Nat.{mod-eq_of_lt, pow-suc}
use Rattle.std.proofs.Math.Pow.{pow-lt, pow_mono}
use Rattle.std.proofs.lemmas.Bool.{ltb-true, ltb-false, le-leb}
use Rattle.std.proofs.lemmas.List.{get_or-take, length-take}
use Rattle.std.proofs.lemmas.List.Quantifiers.{position-Some}
use Rattle.std.proofs.lemmas.List.Sums.{fails_before_first}
use Rattle.std.proofs.lemmas.List.Splits.{slice_split_first, slice_split_none}
use Rattle.std.specs.List.{position_or_len}
use Rattle.protocol_parts.specs.declared.line_fault.LineFault.{LineFault}
use Rattle.line_table.specs.Spelling.{◌>>=◌, numeral_of, numerals_of, track_of, is_comma, set_with}

place_told : (b : Bool) (n i : ℕ) → (if b then Some n else None) ≡ Some i → (b ≡ true) × (n ≡ i)
place_told true n i h = (refl, cc)
place_told false n i h = absurd cc

place_none : (b : Bool) (n : ℕ) → (if b then Some n else None) ≡ None → b ≡ false
place_none true n h = absurd cc
place_none false n h = refl

pub split_some : (p : ℕ → Bool) (xs : List ℕ) (i : ℕ) → position p xs ≡ Some i → slice_split p xs ≡ take i xs ∷ slice_split p (drop (i + 1) xs)
split_some p xs i h =
    let told = place_told (nat_lt (position_or_len p xs) (length xs)) (position_or_len p xs) i h in
    slice_split_first p xs 0 (ltb-true _ _ told.0) ∙ ap (λ n. take n xs ∷ slice_split p (drop (n + 1) xs)) told.1

pub split_none : (p : ℕ → Bool) (xs : List ℕ) → position p xs ≡ None → slice_split p xs ≡ xs ∷ []
split_none p xs h =
    let past = ltb-false _ _ (place_none (nat_lt (position_or_len p xs) (length xs)) (position_or_len p xs) h) in
    slice_split_none p xs (λ k d inside. fails_before_first p xs k d (omega (arith, past, inside)))

-- where nothing passes, and where something does
pub none_passes : (p : ℕ → Bool) (xs : List ℕ) → position p xs ≡ None → All (λ x. p x ≡ false) xs
none_passes p xs h =
    let past = ltb-false _ _ (place_none (nat_lt (position_or_len p xs) (length xs)) (position_or_len p xs) h) in
    λ k d inside. fails_before_first p xs k d (omega (arith, past, inside))

pub first_passes : (p : ℕ → Bool) (xs : List ℕ) (i : ℕ) → position p xs ≡ Some i → (i < length xs) × (p (get_or xs i 0) ≡ true) × All (λ x. p x ≡ false) (take i xs)
first_passes p xs i h =
    let told = position-Some p xs i 0 h in
    let inside = told.0 in
    (inside, told.1, λ k d low. rest k d (omega (arith, low, inside, length-take i xs)))
  where
    rest : (k : ℕ) (d : ℕ) → k < i → p (get_or (take i xs) k d) ≡ false
    rest k d low =
        let told = position-Some p xs i d h in
        rw get_or-take (told.2 k low)

-- one track more: what is left to read, and that its set stays within its tracks
pub next_track : (listed word : List ℕ) (rest : List (List ℕ)) (track least set : ℕ) (r : Result ℕ LineFault) → slice_split is_comma listed ≡ word ∷ rest → Ok track ≡ track_of word → least ≤ track
    → set_with least set (slice_split is_comma listed) ≡ r → set_with (track + 1) (set + 2 ^ track) rest ≡ r
next_track listed word rest track least set r words read above h =
    let step = ap (set_with least set) words in
    let is_track = sym read in
    let high = le-leb least track above in
    let went : set_with least set (word ∷ rest) ≡ set_with (track + 1) (set + 2 ^ track) rest = rw (is_track, high) refl in
    sym went ∙ sym step ∙ h

pub bit_of : (track : ℕ) → track ≤ 31 → 1 * 2 ^ track % 4294967296 ≡ 2 ^ track
bit_of track h =
    let small : 2 ^ track < 2 ^ 32 = pow-lt {i = track} {j = 32} (omega (arith, h)) in
    let one : 1 * 2 ^ track ≡ 2 ^ track = omega arith in
    ap (λ n. n % 4294967296) one ∙ mod-eq_of_lt small

pub set_within : (set least track : ℕ) → set < 2 ^ least → least ≤ track → set + 2 ^ track < 2 ^ (track + 1)
set_within set least track small above =
    let more : 2 ^ least ≤ 2 ^ track = pow_mono above in
    let next : track + 1 ≡ suc track = omega arith in
    let double : 2 ^ (track + 1) ≡ 2 ^ track * 2 = ap (λ k. 2 ^ k) next ∙ pow-suc 2 track in
    omega (arith, small, more, double)

-- numbers that stand before others
abbrev pub behind : List ℕ → Result (List ℕ) LineFault → Result (List ℕ) LineFault
behind ns (Ok more) = Ok (ns ++ more)
behind ns (Err fault) = Err fault

behind_more : (ns : List ℕ) (n : ℕ) (r : Result (List ℕ) LineFault) → behind ns (r >>= (λ others. Ok (n ∷ others))) ≡ behind (ns ++ n ∷ []) r
behind_more ns n (Ok more) = ap Ok (sym (append_assoc ns (n ∷ []) more))
behind_more ns n (Err fault) = refl

-- one number more: what is left to read
pub next_numeral : (ns : List ℕ) (n : ℕ) (listed word : List ℕ) (rest : List (List ℕ)) (all : Result (List ℕ) LineFault) → slice_split is_comma listed ≡ word ∷ rest → Ok n ≡ numeral_of word
    → behind ns (numerals_of (slice_split is_comma listed)) ≡ all → behind (ns ++ n ∷ []) (numerals_of rest) ≡ all
next_numeral ns n listed word rest all words read h =
    let step = ap (λ ws. behind ns (numerals_of ws)) words in
    let is_number = sym read in
    let went : behind ns (numerals_of (word ∷ rest)) ≡ behind (ns ++ n ∷ []) (numerals_of rest) = rw is_number (behind_more ns n (numerals_of rest)) in
    sym went ∙ sym step ∙ h

-- a word that is no number
pub no_numeral : (ns : List ℕ) (listed word : List ℕ) (rest : List (List ℕ)) (fault : LineFault) (all : Result (List ℕ) LineFault) → slice_split is_comma listed ≡ word ∷ rest → Err fault ≡ numeral_of word
    → behind ns (numerals_of (slice_split is_comma listed)) ≡ all → Err fault ≡ all
no_numeral ns listed word rest fault all words read h =
    let step = ap (λ ws. behind ns (numerals_of ws)) words in
    let is_fault = sym read in
    let went : behind ns (numerals_of (word ∷ rest)) ≡ Err fault = rw is_fault refl in
    sym went ∙ sym step ∙ h

pub none_behind : (r : Result (List ℕ) LineFault) → behind [] r ≡ r
none_behind (Ok more) = refl
none_behind (Err fault) = refl
