-- Last zeros of a decimal number.
use Rattle.std.proofs.Common.{◌≡◌, ℕ, zero, suc, ◌+◌, ◌-◌, ◌*◌, ◌/◌, ◌%◌, ◌^◌, ◌<◌, ◌≤◌, pos, ◌*ℤ◌, Bool, true, false, mul_assoc, ap, sym, ◌∙◌, refl, arith}
use Rattle.std.proofs.Math.Nat.{pow-succ'}
use Rattle.std.proofs.lemmas.Nat.{div-add-mod', pow-add}
use Rattle.ratio_time.specs.Numerals.{with_sign, SameNumber}

-- one more zero left out
pub one_more : (d p q : ℕ) → 0 < q → q ≤ p → d % 10 ≡ 0 → d / 10 * 10 ^ (p - (q - 1)) ≡ d * 10 ^ (p - q)
one_more d p q some within ends =
    let e : p - (q - 1) ≡ suc (p - q) = omega arith in
    let split : d / 10 * 10 ≡ d = omega (arith, div-add-mod' d 10) in
    rw (e, pow-succ' 10 (p - q)) (rw (← mul_assoc (d / 10) 10 (10 ^ (p - q))) (ap (λ n. n * 10 ^ (p - q)) split))

-- d/10^q and e/10^p are one number
crossed : (d e p q : ℕ) → q ≤ p → d * 10 ^ (p - q) ≡ e → d * 10 ^ p ≡ e * 10 ^ q
crossed d e p q within same =
    let split : p - q + q ≡ p = omega arith in
    ap (λ n. d * 10 ^ n) (sym split) ∙ (ap (λ n. d * n) (pow-add 10 (p - q) q) ∙ (sym (mul_assoc d (10 ^ (p - q)) (10 ^ q)) ∙ ap (λ n. n * 10 ^ q) same))

times_sign : (b : Bool) (d k : ℕ) → with_sign b d *ℤ pos k ≡ with_sign b (d * k)
times_sign false d k = refl
times_sign true zero k = let e : zero * k ≡ zero = omega arith in rw e refl
times_sign true (suc d) k = refl

pub same_number : (b : Bool) (d e p q : ℕ) → q ≤ p → d * 10 ^ (p - q) ≡ e → SameNumber (with_sign b d) q (with_sign b e) p
same_number b d e p q within same =
    times_sign b d (10 ^ p) ∙ (ap (with_sign b) (crossed d e p q within same) ∙ sym (times_sign b e (10 ^ q)))
