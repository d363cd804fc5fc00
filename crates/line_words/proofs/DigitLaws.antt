-- The value of digits, from the left.
use Rattle.std.proofs.Common.{◌≡◌, ℕ, suc, ◌+◌, ◌-◌, ◌*◌, ◌^◌, ◌<◌, ◌≤◌, Some, None, nat_lt, if◌then◌else◌, List, [], ◌∷◌, ◌++◌, length, take, drop, get_or, add-one, Ok, true, ℤ, pos, negsuc, neg_ℤ, ◌==◌, false, FitsSigned, rules, refl, ap, ◌∙◌, arith, append_assoc}
use Rattle.std.proofs.lemmas.List.{append-nil, take-append-drop, take_more, length_push}
use Rattle.std.proofs.lemmas.Bool.{lt-ltb, le-ltb}
use Rattle.std.proofs.Math.Nat.{pow-suc}
use Rattle.std.specs.Char.{is_ascii_digit}
use Rattle.std.specs.Fmt.{decimal, signed_decimal}
use Rattle.std.specs.Int.{w32}
use Rattle.std.specs.List.{list_all}
use Rattle.std.proofs.lemmas.Bool.{and_from, and_parts, le-leb}
use Rattle.std.proofs.lemmas.Bool.Decides.{nat_tests}
use Rattle.std.proofs.lemmas.Int.{ints}
use Rattle.std.proofs.lemmas.Fmt.{decimal_nonempty, digits_decimal, digits_value-decimal}
use Rattle.std.proofs.lemmas.Str.Parse.{IsNumeralModel, numerals_by_weight}
use Rattle.line_words.specs.Digits.{value_of, is_number, number_of, positive_of, negative_of, signed_of}

shifted : (d p v c : ℕ) → d * (p * 10) + (v * 10 + c) ≡ (d * p + v) * 10 + c
shifted d p v c = omega arith

value_of-push : (ds : List ℕ) (c : ℕ) → value_of (ds ++ c ∷ []) ≡ value_of ds * 10 + (c - 48)
value_of-push [] c = omega arith
value_of-push (d ∷ ds) c =
    let longer : 10 ^ length (ds ++ c ∷ []) ≡ 10 ^ length ds * 10 = ap (λ n. 10 ^ n) (length_push ds c ∙ add-one (length ds)) ∙ pow-suc 10 (length ds) in
    rw (longer, value_of-push ds c) (shifted (d - 48) (10 ^ length ds) (value_of ds) (c - 48))

pub value_of_more : (ds : List ℕ) (i : ℕ) → i < length ds → value_of (take (i + 1) ds) ≡ value_of (take i ds) * 10 + (get_or ds i 0 - 48)
value_of_more ds i h = ap value_of (take_more ds i 0 h) ∙ value_of-push (take i ds) (get_or ds i 0)

value_of-append-ge : (xs ys : List ℕ) → value_of xs ≤ value_of (xs ++ ys)
value_of-append-ge xs [] = omega (arith, ap value_of (append-nil xs))
value_of-append-ge xs (y ∷ ys) = omega (arith, value_of-append-ge (xs ++ y ∷ []) ys, ap value_of (append_assoc xs (y ∷ []) ys), value_of-push xs y)

pub value_of-take-le : (ds : List ℕ) (i : ℕ) → value_of (take i ds) ≤ value_of ds
value_of-take-le ds i = omega (arith, value_of-append-ge (take i ds) (drop i ds), ap value_of (take-append-drop i ds))

-- what 32 bits hold, and what they do not
pub held : (n v : ℕ) → v ≡ n → v < 2 ^ 32 → Some v ≡ (if nat_lt n (2 ^ 32) then Some n else None)
held n v e fits = let small = lt-ltb n (2 ^ 32) (omega arith) in rw small (ap Some e)

pub not_held : (n v : ℕ) → v ≤ n → 2 ^ 32 ≤ v → None ≡ (if nat_lt n (2 ^ 32) then Some n else None)
not_held n v e over = let large = le-ltb n (2 ^ 32) (omega arith) in rw large refl

-- Each number is read from the digits that it is written with.

own : IsNumeralModel (λ ds. list_all is_ascii_digit ds ≡ true) value_of
own = numerals_by_weight (λ ds. list_all is_ascii_digit ds ≡ true) (search rules) value_of (search rules)

is_number-decimal : (n : ℕ) → n < 2 ^ 64 → is_number (decimal n) ≡ true
is_number-decimal n h = and_from _ _ (lt-ltb 0 (length (decimal n)) (decimal_nonempty n h)) (digits_decimal own n h)

number_of_read : (word : List ℕ) (n : ℕ) → is_number word ≡ true → value_of word ≡ n → n < 2 ^ 32 → number_of word ≡ Ok n
number_of_read word n spelled e small = let fits = lt-ltb n (2 ^ 32) small in rw (spelled, e, fits) refl

pub number_of-decimal : (n : ℕ) → n < 2 ^ 32 → number_of (decimal n) ≡ Ok n
number_of-decimal n h = number_of_read (decimal n) n (is_number-decimal n (omega arith)) (digits_value-decimal own n (omega arith)) h

no_minus : (byte : ℕ) → is_ascii_digit byte ≡ true → (byte == 45) ≡ false
no_minus byte h = grind (arith, nat_tests)

signed_of-digits : (word : List ℕ) → is_number word ≡ true → signed_of word ≡ positive_of word
signed_of-digits [] h = absurd cc
signed_of-digits (byte ∷ bytes) h =
    let digits = and_parts _ _ h in
    let first = and_parts (is_ascii_digit byte) (list_all is_ascii_digit bytes) digits.1 in
    let digit = no_minus byte first.0 in
    rw digit refl

positive_of_read : (word : List ℕ) (n : ℕ) → is_number word ≡ true → value_of word ≡ n → n < 2 ^ 31 → positive_of word ≡ Ok (pos n)
positive_of_read word n spelled e small = let fits = lt-ltb n (2 ^ 31) small in rw (spelled, e, fits) refl

negative_of_read : (word : List ℕ) (n : ℕ) → is_number word ≡ true → value_of word ≡ n → n ≤ 2 ^ 31 → negative_of word ≡ Ok (neg_ℤ (pos n))
negative_of_read word n spelled e small = let fits = le-leb n (2 ^ 31) small in rw (spelled, e, fits) refl

pub signed_of-signed_decimal : (z : ℤ) → FitsSigned w32 z → signed_of (signed_decimal z) ≡ Ok z
signed_of-signed_decimal (pos n) h =
    let small : n < 2 ^ 31 = omega (arith, ints) in
    let spelled = is_number-decimal n (omega arith) in
    signed_of-digits (decimal n) spelled ∙ positive_of_read (decimal n) n spelled (digits_value-decimal own n (omega arith)) small
signed_of-signed_decimal (negsuc n) h =
    let small : suc n ≤ 2 ^ 31 = omega (arith, ints) in
    negative_of_read (decimal (suc n)) (suc n) (is_number-decimal (suc n) (omega arith)) (digits_value-decimal own (suc n) (omega arith)) small
