-- Each part of a line is a word where it is written, and spells what was written.
use Rattle.std.proofs.Common.{◌≡◌, ℕ, suc, ℤ, pos, negsuc, FitsSigned, ◌<◌, ◌≤◌, ◌*◌, ◌^◌, List, [], ◌∷◌, ◌++◌, Bool, true, false, not, ◌&&◌, Result, Ok, Err, length, map, get_or, if◌then◌else◌, refl, sym, ap, subst, ◌∙◌, arith, length-append, codes}
use Rattle.std.specs.Char.{is_ascii_digit}
use Rattle.std.specs.Fmt.{decimal, signed_decimal}
use Rattle.std.specs.Int.{w32}
use Rattle.std.specs.List.{list_all, slice_split, All}
use Rattle.std.proofs.Math.Nat.{mul-suc}
use Rattle.std.proofs.lemmas.Bool.{and_parts}
use Rattle.std.proofs.lemmas.Bool.Decides.{nat_tests}
use Rattle.std.proofs.lemmas.Int.{ints}
use Rattle.std.proofs.lemmas.Fmt.{decimal_nonempty, length-decimal-le}
use Rattle.std.proofs.lemmas.List.Elements.{All-nil, All-cons, All-append, All-head, All-tail}
use Rattle.std.proofs.lemmas.List.{append-nil}
use Rattle.std.proofs.lemmas.List.Splits.{slice_split_at, slice_split_none}
use Rattle.line_words.specs.Blanks.{is_blank, is_filled, IsWord}
use Rattle.line_words.specs.Digits.{is_number}
use Rattle.line_words.specs.declared.numbers.NumberFault.{NumberFault}
use Rattle.line_words.specs.declared.numbers.NumberFault.TheVariants.{NotANumber}
use Rattle.line_words.proofs.DigitLaws.{number_of-decimal}
use Rattle.frame_meaning.specs.declared.cells.What.{What}
use Rattle.frame_meaning.specs.declared.cells.What.TheVariants.{Media, Nest}
use Rattle.protocol_parts.specs.Things.{what_text}
use Rattle.line_table.specs.CallTexts.{keep_text, numbers_after, tracks_text, IsSmall, IsSmallWhat}
use Rattle.line_table.specs.Spelling.{is_comma}
use Rattle.line_table.specs.Table.{IsThing, AreNumerals, IsNumbers, NamesTracks, end_word}
use Rattle.composables.specs.declared.calls.End.{End}
use Rattle.composables.specs.declared.calls.End.TheVariants.{Head, Tail}
use Rattle.composables.specs.TrackSets.{tracks_in}
use Rattle.line_table.proofs.TrackSets.{rising, tracks_in_below, tracks_in_count}

-- a word that is read as a number is spelled as one
is_number-read : (b : Bool) (r : Result ℕ NumberFault) (n : ℕ) → (if b then r else Err NotANumber) ≡ Ok n → b ≡ true
is_number-read true r n h = refl
is_number-read false r n h = cc

no_blank : (byte : ℕ) → is_ascii_digit byte ≡ true → is_blank byte ≡ false
no_blank byte h = grind (arith, nat_tests)

pub no_comma : (byte : ℕ) → is_ascii_digit byte ≡ true → is_comma byte ≡ false
no_comma byte h = grind (arith, nat_tests)

pub digits_fail : (p : ℕ → Bool) → ((byte : ℕ) → is_ascii_digit byte ≡ true → p byte ≡ false) → (word : List ℕ) → list_all is_ascii_digit word ≡ true → All (λ byte. p byte ≡ false) word
digits_fail p fails [] h = All-nil (λ byte. p byte ≡ false)
digits_fail p fails (byte ∷ word) h =
    let both = and_parts (is_ascii_digit byte) (list_all is_ascii_digit word) h in
    All-cons (λ byte. p byte ≡ false) byte word (fails byte both.0) (digits_fail p fails word both.1)

pub are_digits : (n : ℕ) → n < 2 ^ 32 → list_all is_ascii_digit (decimal n) ≡ true
are_digits n h = (and_parts _ _ (is_number-read (is_number (decimal n)) _ n (number_of-decimal n h))).1

not_blank : (b : Bool) → not b ≡ true → b ≡ false
not_blank true h = cc
not_blank false h = refl

pub none_blank : (word : List ℕ) → list_all (λ byte. not (is_blank byte)) word ≡ true → All (λ byte. is_blank byte ≡ false) word
none_blank [] h = All-nil (λ byte. is_blank byte ≡ false)
none_blank (byte ∷ word) h =
    let both = and_parts (not (is_blank byte)) (list_all (λ byte. not (is_blank byte)) word) h in
    All-cons (λ byte. is_blank byte ≡ false) byte word (not_blank (is_blank byte) both.0) (none_blank word both.1)

-- a word that is written out
pub IsWord-tested : (word : List ℕ) → (is_filled word && list_all (λ byte. not (is_blank byte)) word) ≡ true → IsWord word
IsWord-tested [] h = cc
IsWord-tested (byte ∷ word) h = record { filled = omega arith; no_blank = none_blank (byte ∷ word) h }

pub length-decimal : (n : ℕ) → n < 2 ^ 32 → length (decimal n) ≤ 10
length-decimal n h = length-decimal-le 10 n (omega arith) (omega arith) (omega arith)

pub IsWord-decimal : (n : ℕ) → n < 2 ^ 32 → IsWord (decimal n)
IsWord-decimal n h = record {
  filled = decimal_nonempty n (omega arith);
  no_blank = digits_fail is_blank no_blank (decimal n) (are_digits n h);
}

-- numbers, parted by commas
no_blank_in : (lead ns : List ℕ) → All (λ byte. is_blank byte ≡ false) lead → All IsSmall ns → All (λ byte. is_blank byte ≡ false) (numbers_after lead ns)
no_blank_in lead [] first h = All-nil (λ byte. is_blank byte ≡ false)
no_blank_in lead (n ∷ ns) first h =
    let here = All-head IsSmall n ns h in
    All-append (λ byte. is_blank byte ≡ false) (lead ++ decimal n) (numbers_after (codes ",") ns) (All-append (λ byte. is_blank byte ≡ false) lead (decimal n) first (IsWord-decimal n here).no_blank)
    (no_blank_in (codes ",") ns (none_blank (codes ",") refl) (All-tail IsSmall n ns h))

-- each takes at most so many bytes with its comma
length_of : (most : ℕ) (lead ns : List ℕ) → length lead ≤ 1 → All (λ n. length (decimal n) < most) ns → length (numbers_after lead ns) ≤ most * length ns
length_of most lead [] first h = omega arith
length_of most lead (n ∷ ns) first h =
    let digits = All-head (λ n. length (decimal n) < most) n ns h in
    let more = length_of most (codes ",") ns (omega arith) (All-tail (λ n. length (decimal n) < most) n ns h) in
    let whole = length-append (lead ++ decimal n) (numbers_after (codes ",") ns) in
    let front = length-append lead (decimal n) in
    let times = mul-suc most (length ns) in
    omega (arith, first, digits, more, whole, front, times)

split_numbers : (n : ℕ) (ns : List ℕ) → IsSmall n → All IsSmall ns → slice_split is_comma (numbers_after [] (n ∷ ns)) ≡ map decimal (n ∷ ns)
split_numbers n [] here h = ap (slice_split is_comma) (append-nil (decimal n)) ∙ slice_split_none is_comma (decimal n) (digits_fail is_comma no_comma (decimal n) (are_digits n here))
split_numbers n (m ∷ ns) here h =
    slice_split_at is_comma (decimal n) 44 (numbers_after [] (m ∷ ns)) (digits_fail is_comma no_comma (decimal n) (are_digits n here)) refl
    ∙ ap (λ words. decimal n ∷ words) (split_numbers m ns (All-head IsSmall m ns h) (All-tail IsSmall m ns h))

numerals_written : (ns : List ℕ) → All IsSmall ns → AreNumerals (map decimal ns) ns
numerals_written [] h = tt
numerals_written (n ∷ ns) h =
    let here = All-head IsSmall n ns h in
    (number_of-decimal n here, numerals_written ns (All-tail IsSmall n ns h))

pub IsNumbers-numbers_after : (ns : List ℕ) → 0 < length ns → All IsSmall ns → IsNumbers (numbers_after [] ns) ns
IsNumbers-numbers_after [] some h = absurd (omega (arith, some))
IsNumbers-numbers_after (n ∷ ns) some h =
    let split = split_numbers n ns (All-head IsSmall n ns h) (All-tail IsSmall n ns h) in
    subst (λ ws. AreNumerals ws (n ∷ ns)) (sym split) (numerals_written (n ∷ ns) h)

pub IsWord-numbers_after : (ns : List ℕ) → 0 < length ns → All IsSmall ns → IsWord (numbers_after [] ns)
IsWord-numbers_after [] some h = absurd (omega (arith, some))
IsWord-numbers_after (n ∷ ns) some h =
    let number = IsWord-decimal n (All-head IsSmall n ns h) in
    let whole = length-append (decimal n) (numbers_after (codes ",") ns) in
    record {
      filled = omega (arith, number.filled, whole);
      no_blank = no_blank_in [] (n ∷ ns) (All-nil (λ byte. is_blank byte ≡ false)) h;
    }

pub length-numbers_after : (ns : List ℕ) → All IsSmall ns → length (numbers_after [] ns) ≤ 11 * length ns
length-numbers_after ns h = length_of 11 [] ns (omega arith) (λ k d within. let digits = length-decimal (get_or ns k d) (h k d within) in omega (arith, digits))

-- a list of the tracks of a set
pub tracks_small : (s : ℕ) → All IsSmall (tracks_in s)
tracks_small s = λ k d within. let low = tracks_in_below s k d within in omega (arith, low)

pub length-track : (t : ℕ) → t < 32 → length (decimal t) ≤ 2
length-track t h = length-decimal-le 2 t (omega arith) (omega arith) (omega (arith, h))

pub length-tracks_text : (s : ℕ) → length (tracks_text s) ≤ 96
length-tracks_text s =
    let text = length_of 3 [] (tracks_in s) (omega arith) (λ k d within. let digits = length-track (get_or (tracks_in s) k d) (tracks_in_below s k d within) in omega (arith, digits)) in
    let few = tracks_in_count s in
    omega (arith, text, few)

module _ (s : ℕ) (some : 0 < s) (small : s < 2 ^ 32) where
  pub some_tracks_in : 0 < length (tracks_in s)
  some_tracks_in = by (tracks_in s) refl
    where
      by : (ts : List ℕ) → tracks_in s ≡ ts → 0 < length (tracks_in s)
      by [] e = let none : s ≡ 0 = rising s [] small (subst (AreNumerals []) (sym e) tt) in absurd (omega (arith, some, none))
      by (n ∷ ns) e = rw e (omega arith)

  pub NamesTracks-tracks_text : NamesTracks (tracks_text s) s
  NamesTracks-tracks_text = (small, IsNumbers-numbers_after (tracks_in s) some_tracks_in (tracks_small s))

  pub IsWord-tracks_text : IsWord (tracks_text s)
  IsWord-tracks_text = IsWord-numbers_after (tracks_in s) some_tracks_in (tracks_small s)

-- one byte more in front of a word
IsWord-cons : (byte : ℕ) (word : List ℕ) → is_blank byte ≡ false → IsWord word → IsWord (byte ∷ word)
IsWord-cons byte word b w = record {
  filled = omega (arith, w.filled);
  no_blank = All-cons (λ byte. is_blank byte ≡ false) byte word b w.no_blank;
}

pub IsWord-what_text : (w : What) → IsSmallWhat w → IsWord (what_text w)
IsWord-what_text (Media m) h = IsWord-cons 64 (decimal m) refl (IsWord-decimal m h)
IsWord-what_text (Nest n) h = IsWord-cons 35 (decimal n) refl (IsWord-decimal n h)

pub length-what_text : (w : What) → IsSmallWhat w → length (what_text w) ≤ 11
length-what_text (Media m) h = omega (arith, length-decimal m h)
length-what_text (Nest n) h = omega (arith, length-decimal n h)

pub IsThing-what_text : (w : What) → IsSmallWhat w → IsThing (what_text w) w
IsThing-what_text (Media m) h = (decimal m, refl, number_of-decimal m h)
IsThing-what_text (Nest n) h = (decimal n, refl, number_of-decimal n h)

-- a delta
pub delta_small : (n : ℕ) → FitsSigned w32 (pos n) → n < 2 ^ 32
delta_small n h = omega (arith, ints)

pub back_small : (n : ℕ) → FitsSigned w32 (negsuc n) → suc n < 2 ^ 32
back_small n h = omega (arith, ints)

pub IsWord-signed : (z : ℤ) → FitsSigned w32 z → IsWord (signed_decimal z)
IsWord-signed (pos n) h = IsWord-decimal n (delta_small n h)
IsWord-signed (negsuc n) h = IsWord-cons 45 (decimal (suc n)) refl (IsWord-decimal (suc n) (back_small n h))

pub length-signed : (z : ℤ) → FitsSigned w32 z → length (signed_decimal z) ≤ 11
length-signed (pos n) h = let digits = length-decimal n (delta_small n h) in omega (arith, digits)
length-signed (negsuc n) h = let digits = length-decimal (suc n) (back_small n h) in omega (arith, digits)

-- an end of an item
pub IsWord-end : (end : End) → IsWord (end_word end)
IsWord-end Head = IsWord-tested (codes "head") refl
IsWord-end Tail = IsWord-tested (codes "tail") refl

pub length-end : (end : End) → length (end_word end) ≤ 4
length-end Head = omega arith
length-end Tail = omega arith

-- whether dissolves are kept
pub length-keep : (keep : Bool) → length (keep_text keep) ≤ 5
length-keep true = omega arith
length-keep false = omega arith
