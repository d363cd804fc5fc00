-- Blanks and words, a byte at a time.
use Rattle.std.proofs.Common.{◌≡◌, ℕ, ◌+◌, ◌<◌, Bool, true, false, cond, List, [], ◌∷◌, length, Option, Some, None, refl, ap, arith}
use Rattle.json_tokens.specs.Reading.{blank_at, past_blanks, is_blank}

blank_if : (t : Bool) (at b : ℕ) (bs : List ℕ) (after : ℕ × List ℕ) → cond t (Some (at + 1, bs)) None ≡ Some after → cond t (past_blanks (at + 1) bs) (at, b ∷ bs) ≡ past_blanks after.0 after.1
blank_if true at b bs after e = ap (λ o. past_blanks o.0 o.1) (some_is (at + 1, bs) after e)
  where
    some_is : (x y : ℕ × List ℕ) → ◌≡◌ {A = Option (ℕ × List ℕ)} (Some x) (Some y) → x ≡ y
    some_is x y p = cc
blank_if false at b bs after e = absurd cc

pub blank_on : (at : ℕ) (bytes : List ℕ) (after : ℕ × List ℕ) → blank_at at bytes ≡ Some after → past_blanks at bytes ≡ past_blanks after.0 after.1
blank_on at [] after e = absurd cc
blank_on at (b ∷ bs) after e = blank_if (is_blank b) at b bs after e

end_if : (t : Bool) (at b : ℕ) (bs : List ℕ) → ◌≡◌ {A = Option (ℕ × List ℕ)} (cond t (Some (at + 1, bs)) None) None → cond t (past_blanks (at + 1) bs) (at, b ∷ bs) ≡ (at, b ∷ bs)
end_if true at b bs e = absurd cc
end_if false at b bs e = refl

pub blank_end : (at : ℕ) (bytes : List ℕ) → blank_at at bytes ≡ None → past_blanks at bytes ≡ (at, bytes)
blank_end at [] e = refl
blank_end at (b ∷ bs) e = end_if (is_blank b) at b bs e

blank_shorter_if : (t : Bool) (at b : ℕ) (bs : List ℕ) (after : ℕ × List ℕ) → cond t (Some (at + 1, bs)) None ≡ Some after → length after.1 < length (b ∷ bs)
blank_shorter_if true at b bs after e =
    let same : bs ≡ after.1 = ap (λ o. rest_of o) e in
    omega (arith, ap length same)
  where
    rest_of : Option (ℕ × List ℕ) → List ℕ
    rest_of None = []
    rest_of (Some x) = x.1
blank_shorter_if false at b bs after e = absurd cc

pub blank_shorter : (at : ℕ) (bytes : List ℕ) (after : ℕ × List ℕ) → blank_at at bytes ≡ Some after → length after.1 < length bytes
blank_shorter at [] after e = absurd cc
blank_shorter at (b ∷ bs) after e = blank_shorter_if (is_blank b) at b bs after e
