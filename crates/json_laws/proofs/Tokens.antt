-- Texts and numbers at the front of bytes, by the readings of `json_tokens`.
use Rattle.std.proofs.Common.{◌≡◌, ℕ, ℤ, Bool, true, false, List, [], ◌∷◌, ◌++◌, Option, Some, None, length, refl, arith}
use Rattle.std.proofs.lemmas.Bool.Decides.{nat_tests}
use Rattle.std.proofs.lemmas.List.{length-append}
use Rattle.json_tokens.specs.Decimal.{Digits}
use Rattle.json_tokens.specs.Grammar.{IsDigit}
use Rattle.json_tokens.specs.ReadingNumerals.{is_digit, numeral_of_digits}
use Rattle.json_tokens.proofs.NumeralLaws.{Ends, IsNumeral, kept_numeral, numeral_again, numeral_took, wide_numeral}
use Rattle.json_tokens.proofs.TextLaws.{text_again, text_took}
use Rattle.json_laws.specs.Tokens.{EndsNumber, IsValueOf, NumbersAreRead, NumbersAreSpelled, TextsAreRead, TextsAreSpelled}

pub texts_spelled : TextsAreSpelled
texts_spelled at after bytes text rest is =
    let t = text_took (length bytes) at bytes (text, after, rest) is in
    (t.body, t.is, t.parts, t.place)

pub texts_read : TextsAreRead
texts_read at body text rest h = text_again body text (length (body ++ 34 ∷ rest)) at rest h (omega (arith, length-append body (34 ∷ rest)))

-- numbers

value_of : (d : Digits) (value : Option (ℤ × ℕ)) → IsNumeral d value → IsValueOf d value
value_of d (Some n) h = h
value_of d None h = h

value_is : (d : Digits) (value : Option (ℤ × ℕ)) → IsValueOf d value → numeral_of_digits d ≡ value
value_is d (Some n) h = kept_numeral d n.0 n.1 h
value_is d None h = wide_numeral d h

pub numbers_spelled : NumbersAreSpelled
numbers_spelled at after bytes rest value is =
    let t = numeral_took at bytes (value, after, rest) is in
    (t.front, t.is.0, t.is.1, value_of t.is.0 value t.is.2, t.parts, t.place)

digit_is : (b : ℕ) → is_digit b ≡ true → IsDigit b
digit_is b is = (grind (arith, nat_tests), grind (arith, nat_tests))

no_digit : (b : ℕ) → (IsDigit b → ⊥) → is_digit b ≡ false
no_digit b none = by_test (is_digit b) refl where
  by_test : (t : Bool) → is_digit b ≡ t → is_digit b ≡ false
  by_test true is = absurd (none (digit_is b is))
  by_test false is = is

ends : (rest : List ℕ) → EndsNumber rest → Ends rest
ends [] h = tt
ends (b ∷ bs) h = (no_digit b h.0, h.1, h.2, h.3)

pub numbers_read : NumbersAreRead
numbers_read at front rest d value n v e = numeral_again front d value at rest n (value_is d value v) (ends rest e)
