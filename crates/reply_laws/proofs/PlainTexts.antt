-- Texts without a control character, so without a line feed.
use Rattle.std.proofs.Common.{◌≡◌, ℕ, zero, suc, ℤ, pos, negsuc, ◌+◌, ◌/◌, ◌%◌, ◌<◌, ◌≤◌, List, [], ◌∷◌, ◌++◌, Bool, true, false, not, cond, ◌==◌, ◌&&◌, ◌||◌, nat_lt, if◌then◌else◌, refl, arith}
use Rattle.std.specs.Fmt.{decimal, signed_decimal, digits, digits_onto, digit_glyph}
use Rattle.std.specs.List.{list_all, flat_map}
use Rattle.std.proofs.lemmas.Bool.{and_parts}
use Rattle.std.proofs.lemmas.Bool.Decides.{nat_tests}
use Rattle.std.proofs.lemmas.List.Elements.{All-nil, All-cons}
use Rattle.std.proofs.lemmas.List.Folds.{list_all-append}
use Rattle.line_words.specs.Lines.{is_lf}
use Rattle.json_tree.specs.Writing.{quoted, escaped, hex_digit}
use Rattle.journal_text.specs.JournalFaults.{HasNoLineFeed}

-- no byte is a control character: one below a space
abbrev pub is_plain : List ℕ → Bool
is_plain bytes = list_all (λ byte. not (nat_lt byte 32)) bytes

pub split : (a b : List ℕ) → is_plain (a ++ b) ≡ is_plain a && is_plain b
split a b = list_all-append (λ byte. not (nat_lt byte 32)) a b

pub both : (a b : List ℕ) → is_plain a ≡ true → is_plain b ≡ true → is_plain (a ++ b) ≡ true
both a b h k = rw (list_all-append (λ byte. not (nat_lt byte 32)) a b, h, k) refl

pub either : (t : Bool) (a b : List ℕ) → is_plain a ≡ true → is_plain b ≡ true → is_plain (if t then a else b) ≡ true
either true a b h k = h
either false a b h k = k

byte_plain : (byte : ℕ) → 31 < byte → not (nat_lt byte 32) ≡ true
byte_plain byte h = grind (arith, nat_tests)

pub more : (byte : ℕ) (bytes : List ℕ) → 31 < byte → is_plain bytes ≡ true → is_plain (byte ∷ bytes) ≡ true
more byte bytes h k = rw (byte_plain byte h, k) refl

glyph_big : (d : ℕ) → 31 < digit_glyph false d
glyph_big d = by (nat_lt d 10)
  where
    by : (a : Bool) → 31 < cond a (48 + d) (cond false (55 + d) (87 + d))
    by true = omega arith
    by false = omega arith

onto_plain : (k n : ℕ) (acc : List ℕ) → is_plain acc ≡ true → is_plain (digits_onto k 10 false n acc) ≡ true
onto_plain zero n acc h = h
onto_plain (suc k) n acc h =
    let front = more (digit_glyph false (n % 10)) acc (glyph_big (n % 10)) h in
    either (n / 10 == 0) (digit_glyph false (n % 10) ∷ acc) (digits_onto k 10 false (n / 10) (digit_glyph false (n % 10) ∷ acc)) front
    (onto_plain k (n / 10) (digit_glyph false (n % 10) ∷ acc) front)

pub number : (n : ℕ) → is_plain (decimal n) ≡ true
unfolding digits
number n = onto_plain 64 n [] refl

pub signed : (z : ℤ) → is_plain (signed_decimal z) ≡ true
signed (pos n) = number n
signed (negsuc n) = number (suc n)

pub each : {X : Type 0} (f : X → List ℕ) → ((x : X) → is_plain (f x) ≡ true) → (xs : List X) → is_plain (flat_map f xs) ≡ true
each f h [] = refl
each f h (x ∷ xs) = both (f x) (flat_map f xs) (h x) (each f h xs)

hex_big : (n : ℕ) → 31 < hex_digit n
hex_big n = by (nat_lt n 10)
  where
    by : (t : Bool) → 31 < (if t then 48 + n else 87 + n)
    by true = omega arith
    by false = omega arith

-- a byte that is written as it is, is no control character
plain_byte : (b : ℕ) (t : Bool) → nat_lt b 32 ≡ t
    → is_plain (if t then 92 ∷ 117 ∷ 48 ∷ 48 ∷ (48 + b / 16) ∷ hex_digit (b % 16) ∷ [] else b ∷ []) ≡ true
plain_byte b true e = more (48 + b / 16) (hex_digit (b % 16) ∷ []) (omega arith) (more (hex_digit (b % 16)) [] (hex_big (b % 16)) refl)
plain_byte b false e = more b [] (grind (arith, nat_tests)) refl

escape : (b : ℕ) (t : Bool) → ((b == 34) || (b == 92)) ≡ t
    → is_plain (if t then 92 ∷ b ∷ [] else (if nat_lt b 32 then 92 ∷ 117 ∷ 48 ∷ 48 ∷ (48 + b / 16) ∷ hex_digit (b % 16) ∷ [] else b ∷ [])) ≡ true
escape b true e = more b [] (grind (arith, nat_tests)) refl
escape b false e = plain_byte b (nat_lt b 32) refl

pub name : (s : List ℕ) → is_plain (quoted s) ≡ true
name s = both (flat_map escaped s) (34 ∷ []) (each escaped (λ b. escape b ((b == 34) || (b == 92)) refl) s) refl

-- ---- as the laws say it

no_feed : (byte : ℕ) → not (nat_lt byte 32) ≡ true → is_lf byte ≡ false
no_feed byte h = grind (arith, nat_tests)

pub no_feeds : (text : List ℕ) → is_plain text ≡ true → HasNoLineFeed text
no_feeds [] h = All-nil (λ byte. is_lf byte ≡ false)
no_feeds (byte ∷ text) h =
    let parts = and_parts (not (nat_lt byte 32)) (is_plain text) h in
    All-cons (λ byte. is_lf byte ≡ false) byte text (no_feed byte parts.0) (no_feeds text parts.1)
