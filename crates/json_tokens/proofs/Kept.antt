-- What the code computes of a number is the fraction that it is.
use Rattle.std.proofs.Common.{◌≡◌, ◌≢◌, ℕ, zero, suc, ◌+◌, ◌-◌, ◌*◌, ◌%◌, ◌^◌, ◌≤◌, ◌<◌, true, false, cond, ltb, Some, None, length, refl, sym, ap, ◌∙◌, ◌⊎◌, inl, inr, arith}
use Rattle.std.proofs.lemmas.Bool.{lt-ltb}
use Rattle.json_tokens.specs.ReadingNumerals.{fraction, numeral_of_fraction, numeral_of_digits}
use Rattle.json_tokens.specs.Decimal.{Digits, number_from, number_of}
use Rattle.json_tokens.specs.declared.numerals.Significant.{Significant}
use Rattle.json_tokens.specs.Significant.{TooMany, Holds, IsSize}
use Rattle.json_tokens.proofs.Fractions.{small, small_not, mul_big, fraction_up, fraction_down, fraction_far, fraction_many, fraction_zero, fraction_moved}

small_is : (size places : ℕ) → size < 10 ^ 18 → small size places ≡ Some (size, places)
small_is size places lt = rw (lt-ltb size (10 ^ 18) lt) refl

-- ---- by the sizes of up and down
pub wide_up : (k up down : ℕ) → 0 < k → down ≤ up → 18 ≤ up - down → fraction k up down ≡ None
wide_up k up down pos le far = fraction_up k up down le ∙ small_not (k * 10 ^ (up - down)) 0 (mul_big k (up - down) pos far)

pub wide_product : (k up down p : ℕ) → down ≤ up → p ≡ 10 ^ (up - down) → 10 ^ 18 ≤ k * p → fraction k up down ≡ None
wide_product k up down p le e many = fraction_up k up down le ∙ small_not (k * 10 ^ (up - down)) 0 (rw (ap (λ x. k * x) e) at many)

pub kept_up : (k up down p : ℕ) → down ≤ up → p ≡ 10 ^ (up - down) → k * p < 10 ^ 18 → fraction k up down ≡ Some (k * p, 0)
kept_up k up down p le e few = fraction_up k up down le ∙ ap (λ x. small (k * x) 0) (sym e) ∙ small_is (k * p) 0 few

pub kept_down : (k up down : ℕ) → k % 10 ≢ 0 → k < 10 ^ 18 → up < down → down - up ≤ 18 → fraction k up down ≡ Some (k, down - up)
kept_down k up down last few lt near = fraction_down k up down last lt near ∙ small_is k (down - up) few

pub none_zero : (k up down : ℕ) → k ≡ 0 → fraction k up down ≡ Some (0, 0)
none_zero k up down e = ap (λ x. fraction x up down) e ∙ fraction_zero up down

-- ---- exponents so large that it does not matter how large
zero_or_last : (k : ℕ) → (0 < k → k % 10 ≢ 0) → (k ≡ 0) ⊎ ((0 < k) × (k % 10 ≢ 0))
zero_or_last zero h = inl refl
zero_or_last (suc k) h = inr (omega arith, h (omega arith))

far_down : (k z l m : ℕ) → (0 < k → k % 10 ≢ 0) → z < 2 ^ 67 → 10 ^ 30 ≤ m → fraction k z (l + m) ≡ cond (ltb 0 k) None (Some (0, 0))
far_down k z l m last lt far = elim (zero_or_last k last) [
  | inl e ↦ none_zero k z (l + m) e ∙ rw e refl
  | inr h ↦ fraction_far k z (l + m) h.1 (omega arith) ∙ rw (lt-ltb 0 k h.0) refl
]

far_up : (k z l m : ℕ) → (0 < k → k % 10 ≢ 0) → l < 2 ^ 67 → 10 ^ 30 ≤ m → fraction k (z + m) l ≡ cond (ltb 0 k) None (Some (0, 0))
far_up k z l m last lt far = elim (zero_or_last k last) [
  | inl e ↦ none_zero k (z + m) l e ∙ rw e refl
  | inr h ↦ wide_up k (z + m) l h.0 (omega arith) (omega arith) ∙ rw (lt-ltb 0 k h.0) refl
]

pub same_down : (k z l s m : ℕ) → (0 < k → k % 10 ≢ 0) → z < 2 ^ 67 → IsSize s m → fraction k z (l + s) ≡ fraction k z (l + m)
same_down k z l s m last lt (inl e) = ap (λ x. fraction k z (l + x)) e
same_down k z l s m last lt (inr far) = far_down k z l s last lt far.0 ∙ sym (far_down k z l m last lt far.1)

pub same_up : (k z l s m : ℕ) → (0 < k → k % 10 ≢ 0) → l < 2 ^ 67 → IsSize s m → fraction k (z + s) l ≡ fraction k (z + m) l
same_up k z l s m last lt (inl e) = ap (λ x. fraction k (z + x) l) e
same_up k z l s m last lt (inr far) = far_up k z l s last lt far.0 ∙ sym (far_up k z l m last lt far.1)

-- ---- the whole number
pub starts : Holds (record { kept = 0; zeros = 0; too_many = false }) 0
starts = record { size = omega arith; none = λ e. refl; number = λ e. omega arith; last = λ e p. absurd (omega arith); many = λ e. absurd cc }

pub too_many_none : (n up down : ℕ) → TooMany n → fraction n up down ≡ None
too_many_none n up down m = ap (λ x. fraction x up down) m.number ∙ fraction_moved m.digits m.zeros up down ∙ fraction_many m.digits (m.zeros + up) down m.last m.many

module _ (s : Significant) (n l size e : ℕ) (h : Holds s n) (few : s.too_many ≡ false) (is_size : IsSize size e) where
  lowered : s.zeros < 2 ^ 67 → fraction s.kept s.zeros (l + size) ≡ fraction n 0 (l + e)
  lowered lt =
      same_down s.kept s.zeros l size e (h.last few) lt is_size
      ∙ ap (λ x. fraction s.kept x (l + e)) (omega arith)
      ∙ sym (fraction_moved s.kept s.zeros 0 (l + e))
      ∙ ap (λ x. fraction x 0 (l + e)) (sym (h.number few))

  raised : l < 2 ^ 67 → fraction s.kept (s.zeros + size) l ≡ fraction n e (l + 0)
  raised lt =
      same_up s.kept s.zeros l size e (h.last few) lt is_size
      ∙ ap (λ x. fraction s.kept (s.zeros + e) x) (omega arith)
      ∙ sym (fraction_moved s.kept s.zeros e (l + 0))
      ∙ ap (λ x. fraction x e (l + 0)) (sym (h.number few))

pub numeral_lowered : (d : Digits) (s : Significant) (size : ℕ) → d.lowers ≡ true → Holds s (number_from (number_of d.whole) d.fraction) → s.too_many ≡ false → IsSize size (number_of d.exponent) → s.zeros < 2 ^ 67
    → numeral_of_fraction d.negative (fraction s.kept s.zeros (length d.fraction + size)) ≡ numeral_of_digits d
numeral_lowered d s size is h few is_size lt = rw is (ap (numeral_of_fraction d.negative) (lowered s _ (length d.fraction) size (number_of d.exponent) h few is_size lt))

pub numeral_raised : (d : Digits) (s : Significant) (size : ℕ) → d.lowers ≡ false → Holds s (number_from (number_of d.whole) d.fraction) → s.too_many ≡ false → IsSize size (number_of d.exponent) → length d.fraction < 2 ^ 67
    → numeral_of_fraction d.negative (fraction s.kept (s.zeros + size) (length d.fraction)) ≡ numeral_of_digits d
numeral_raised d s size is h few is_size lt = rw is (ap (numeral_of_fraction d.negative) (raised s _ (length d.fraction) size (number_of d.exponent) h few is_size lt))

pub numeral_wide : (d : Digits) → TooMany (number_from (number_of d.whole) d.fraction) → numeral_of_digits d ≡ None
numeral_wide d m = ap (numeral_of_fraction d.negative) (too_many_none _ _ _ m)

-- ---- one digit more of an exponent
pub size_more : (size n d : ℕ) → IsSize size n → size < 10 ^ 30 → IsSize (size * 10 + d) (n * 10 + d)
size_more size n d (inl e) lt = inl (ap (λ x. x * 10 + d) e)
size_more size n d (inr far) lt = absurd (omega (arith, far.0))

pub size_stays : (size n d : ℕ) → IsSize size n → 10 ^ 30 ≤ size → IsSize size (n * 10 + d)
size_stays size n d (inl e) le = inr (le, omega arith)
size_stays size n d (inr far) le = inr (le, omega (arith, far.1))
