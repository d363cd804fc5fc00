-- What one digit more does to a number.
use Rattle.std.proofs.Common.{◌≡◌, ℕ, zero, suc, ◌+◌, ◌*◌, ◌%◌, ◌^◌, ◌≤◌, ◌<◌, Bool, true, false, cond, eqb, refl, sym, ap, ◌∙◌, ◌⊎◌, inl, inr, arith}
use Rattle.std.proofs.lemmas.Nat.{mul-le, mod-mul-add}
use Rattle.std.proofs.Math.Nat.{mul_assoc, pow-suc}
use Rattle.std.proofs.lemmas.Bool.{eqb-true, eqb-false}
use Rattle.json_tokens.specs.declared.numerals.Significant.{Significant}
use Rattle.json_tokens.specs.Significant.{TooMany, Holds}
use Rattle.json_tokens.proofs.Fractions.{mul_big, ten_pos}

ten_more : (k z : ℕ) → k * 10 ^ z * 10 ≡ k * 10 ^ (z + 1)
ten_more k z = mul_assoc k (10 ^ z) 10 ∙ ap (λ x. k * x) (sym (pow-suc 10 z)) ∙ ap (λ x. k * 10 ^ x) (omega arith)

many_zero : (n : ℕ) → TooMany n → TooMany (n * 10 + 0)
many_zero n m = record { digits = m.digits; zeros = m.zeros + 1; number = omega arith ∙ ap (λ x. x * 10) m.number ∙ ten_more m.digits m.zeros; many = m.many; last = m.last }

-- a number of at least 10^18, and a digit behind it
many_digit : (n d : ℕ) → d < 10 → 0 < d → 10 ^ 18 ≤ n * 10 + d → TooMany (n * 10 + d)
many_digit n d lt pos le = record { digits = n * 10 + d; zeros = 0; number = omega arith; many = le; last = λ e. absurd (omega (arith, mod-mul-add n 10 d lt)) }

many_is : (n : ℕ) → TooMany n → 10 ^ 18 ≤ n
many_is n m =
    let p : m.digits * 1 ≤ m.digits * 10 ^ m.zeros = mul-le m.digits 1 m.digits (10 ^ m.zeros) (omega arith) (ten_pos m.zeros) in
    omega (arith, m.number, m.many)

zeros_if : (t : Bool) (k z : ℕ) → eqb k 0 ≡ t → (k ≡ 0 → z ≡ 0) → (n : ℕ) → n ≡ k * 10 ^ z → n * 10 + 0 ≡ k * 10 ^ (cond t z (z + 1))
zeros_if true k z e none n is = let k-is : k ≡ 0 = eqb-true k 0 e in
    let n-is : n ≡ 0 = is ∙ ap (λ x. x * 10 ^ z) k-is ∙ omega arith in
    let right : k * 10 ^ z ≡ 0 = ap (λ x. x * 10 ^ z) k-is ∙ omega arith in
    omega arith
zeros_if false k z e none n is = omega arith ∙ ap (λ x. x * 10) is ∙ ten_more k z

none_if : (t : Bool) (k z : ℕ) → eqb k 0 ≡ t → (k ≡ 0 → z ≡ 0) → k ≡ 0 → cond t z (z + 1) ≡ 0
none_if true k z e none is = none is
none_if false k z e none is = absurd (eqb-false k 0 e is)

pub holds_zero : (s t : Significant) (n d : ℕ) → d ≡ 0 → t.kept ≡ s.kept → t.zeros ≡ cond (eqb s.kept 0) s.zeros (s.zeros + 1) → t.too_many ≡ s.too_many → Holds s n → Holds t (n * 10 + d)
holds_zero s t n d d-is k z m h = rw d-is (record {
  size = rw k h.size;
  none = λ e. z ∙ none_if (eqb s.kept 0) s.kept s.zeros refl h.none (sym k ∙ e);
  number = λ e. zeros_if (eqb s.kept 0) s.kept s.zeros refl h.none n (h.number (sym m ∙ e)) ∙ rw (k, z) refl;
  last = λ e p. rw k (h.last (sym m ∙ e) (rw k at p));
  many = λ e. many_zero n (h.many (sym m ∙ e));
})

-- the digits were too many before, or there are too many zeros before this one
pub holds_more : (s t : Significant) (n d : ℕ) → 0 < d → d < 10 → (s.too_many ≡ true) ⊎ (18 ≤ s.zeros) → t ≡ record { kept = s.kept; zeros = s.zeros; too_many = true } → Holds s n → Holds t (n * 10 + d)
holds_more s t n d pos lt far is h = rw is (record {
  size = h.size;
  none = h.none;
  number = λ e. absurd cc;
  last = λ e. absurd cc;
  many = λ e. many_digit n d lt pos (large s.too_many refl far);
})
  where
    large : (b : Bool) → s.too_many ≡ b → (s.too_many ≡ true) ⊎ (18 ≤ s.zeros) → 10 ^ 18 ≤ n * 10 + d
    large true e f = omega (arith, many_is n (h.many e))
    large false e (inl f) = absurd cc
    large false e (inr f) =
        let one : 1 ≤ s.kept = not_none s.kept refl in
        omega (arith, mul_big s.kept s.zeros one f, h.number e)
      where
        not_none : (k : ℕ) → s.kept ≡ k → 1 ≤ s.kept
        not_none zero q = absurd (omega (arith, h.none q))
        not_none (suc k) q = omega arith

-- the number with one more digit
pub next_number : (s : Significant) (n d : ℕ) → s.too_many ≡ false → Holds s n → s.kept * 10 ^ (s.zeros + 1) + d ≡ n * 10 + d
next_number s n d e h = ap (λ x. x + d) (sym (ten_more s.kept s.zeros) ∙ ap (λ x. x * 10) (sym (h.number e)))

pub holds_wide : (s t : Significant) (n d w : ℕ) → 0 < d → d < 10 → s.too_many ≡ false → w ≡ s.kept * 10 ^ (s.zeros + 1) + d → 10 ^ 18 ≤ w → t ≡ record { kept = s.kept; zeros = s.zeros; too_many = true } → Holds s n → Holds t (n * 10 + d)
holds_wide s t n d w pos lt few wide le is h = rw is (record {
  size = h.size;
  none = h.none;
  number = λ e. absurd cc;
  last = λ e. absurd cc;
  many = λ e. many_digit n d lt pos (omega (arith, next_number s n d few h));
})

pub holds_next : (s t : Significant) (n d w : ℕ) → 0 < d → d < 10 → s.too_many ≡ false → w ≡ s.kept * 10 ^ (s.zeros + 1) + d → w < 10 ^ 18 → t ≡ record { kept = w; zeros = 0; too_many = false } → Holds s n → Holds t (n * 10 + d)
holds_next s t n d w pos lt few wide le is h =
    let e : w ≡ n * 10 + d = wide ∙ next_number s n d few h in
    rw is (record {
      size = le;
      none = λ q. refl;
      number = λ q. omega arith;
      last = λ q p r. absurd (omega (arith, mod-mul-add n 10 d lt, ap (λ x. x % 10) e));
      many = λ q. absurd cc;
    })
