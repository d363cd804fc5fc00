-- Products of the parts of times, and their sizes.
use Rattle.std.proofs.Common.{◌≡◌, ℕ, ◌+◌, ◌*◌, ◌^◌, ◌<◌, ◌≤◌, ℤ, pos, ◌*ℤ◌, ◌-ℤ◌, unsigned_abs, FitsSigned, to_z, of_z, w64, negsuc, arith, mul-pos, false}
use Rattle.std.specs.Int.{w128}
use Rattle.std.specs.Int.Signed.{le_z}
use Rattle.std.proofs.lemmas.Int.{ints, to_z-of_z, to_z_pos, fits_signed_from_abs, unsigned_abs-mul}
use Rattle.std.proofs.lemmas.Nat.{mul-le}
use Rattle.std.proofs.Math.Nat.{pow-le-pow_right, one-le-pow}

pub power_small : (p : ℕ) → p ≤ 18 → 10 ^ p ≤ 10 ^ 18
power_small p h = let ten : 0 < 10 = omega arith in pow-le-pow_right ten h

pub under_small : (p a b : ℕ) → p ≤ 18 → a ≤ 10 ^ 12 → b ≤ 10 ^ 6 → 10 ^ p * a * b ≤ 10 ^ 36
under_small p a b hp ha hb =
    let one : 10 ^ p * a ≤ 10 ^ 18 * 10 ^ 12 = mul-le (10 ^ p) a (10 ^ 18) (10 ^ 12) (power_small p hp) ha in
    mul-le (10 ^ p * a) b (10 ^ 18 * 10 ^ 12) (10 ^ 6) one hb

pub under_positive : (p a b : ℕ) → 1 ≤ a → 1 ≤ b → 1 ≤ 10 ^ p * a * b
under_positive p a b ha hb = mul-pos (mul-pos (one-le-pow p 10 (omega arith)) ha) hb

over_small : (m : ℤ) (a b : ℕ) → unsigned_abs m < 10 ^ 18 → a ≤ 10 ^ 6 → b ≤ 10 ^ 12 → unsigned_abs (m *ℤ pos (a * b)) ≤ 10 ^ 36
over_small m a b hm ha hb =
    let factor : a * b ≤ 10 ^ 6 * 10 ^ 12 = mul-le a b (10 ^ 6) (10 ^ 12) ha hb in
    let size : unsigned_abs m ≤ 10 ^ 18 = omega arith in
    rw (unsigned_abs-mul m (pos (a * b))) (mul-le (unsigned_abs m) (a * b) (10 ^ 18) (10 ^ 18) size factor)

-- what the code multiplies, in bits
pub over_bits : (m r : ℤ) (a b x y : ℕ) → r ≡ to_z w64 (of_z w64 m) → x ≡ a → y ≡ b → FitsSigned w64 m → unsigned_abs m < 10 ^ 18 → a ≤ 10 ^ 6 → b ≤ 10 ^ 12
    → to_z w128 (of_z w128 (to_z w128 (of_z w128 r) *ℤ to_z w128 (x * y))) ≡ m *ℤ pos (a * b)
over_bits m r a b x y er ex ey fm hm ha hb =
    let wide : FitsSigned w128 m = fits_signed_from_abs w128 m (omega arith) in
    let factor : a * b ≤ 10 ^ 6 * 10 ^ 12 = mul-le a b (10 ^ 6) (10 ^ 12) ha hb in
    let small : a * b < 2 ^ 127 = omega arith in
    let fits : FitsSigned w128 (m *ℤ pos (a * b)) = fits_signed_from_abs w128 (m *ℤ pos (a * b)) (omega (arith, over_small m a b hm ha hb)) in
    rw (er, ex, ey, to_z-of_z w64 m fm, to_z-of_z w128 m wide, to_z_pos w128 (a * b) small) (to_z-of_z w128 (m *ℤ pos (a * b)) fits)

pub over_bits_small : (m r : ℤ) (a b x y : ℕ) → r ≡ to_z w64 (of_z w64 m) → x ≡ a → y ≡ b → FitsSigned w64 m → unsigned_abs m < 10 ^ 18 → a ≤ 10 ^ 6 → b ≤ 10 ^ 12
    → unsigned_abs (to_z w128 (of_z w128 (to_z w128 (of_z w128 r) *ℤ to_z w128 (x * y)))) ≤ 10 ^ 36
over_bits_small m r a b x y er ex ey fm hm ha hb = rw (over_bits m r a b x y er ex ey fm hm ha hb) (over_small m a b hm ha hb)

pub under_fits : (p a b : ℕ) → p ≤ 18 → a ≤ 10 ^ 12 → b ≤ 10 ^ 6 → FitsSigned w128 (pos (10 ^ p * a * b))
under_fits p a b hp ha hb = fits_signed_from_abs w128 (pos (10 ^ p * a * b)) (omega (arith, under_small p a b hp ha hb))

pub under_bits : (p a b : ℕ) → p ≤ 18 → a ≤ 10 ^ 12 → b ≤ 10 ^ 6 → to_z w128 (10 ^ p * a * b) ≡ pos (10 ^ p * a * b)
under_bits p a b hp ha hb =
    let small : 10 ^ p * a * b < 2 ^ 127 = omega (arith, under_small p a b hp ha hb) in
    to_z_pos w128 (10 ^ p * a * b) small

pub one_positive : (p : ℕ) → 1 ≤ 10 ^ p
one_positive p = one-le-pow p 10 (omega arith)

apart_small : (m : ℤ) (den num ten : ℕ) → unsigned_abs m < 10 ^ 18 → den ≤ 10 ^ 6 → num ≤ 10 ^ 12 → ten ≤ 10 ^ 18
    → unsigned_abs (m *ℤ pos den -ℤ pos (num * ten)) ≤ 2 * 10 ^ 30
apart_small m den num ten hm hd hn ht =
    let size : unsigned_abs m ≤ 10 ^ 18 = omega arith in
    let left : unsigned_abs m * den ≤ 10 ^ 18 * 10 ^ 6 = mul-le (unsigned_abs m) den (10 ^ 18) (10 ^ 6) size hd in
    let right : num * ten ≤ 10 ^ 12 * 10 ^ 18 = mul-le num ten (10 ^ 12) (10 ^ 18) hn ht in
    omega (arith, difference (m *ℤ pos den) (num * ten), unsigned_abs-mul m (pos den))
  where
    difference : (a : ℤ) (b : ℕ) → unsigned_abs (a -ℤ pos b) ≤ unsigned_abs a + b
    difference a b = omega (arith, ints)

pub apart_bits : (m r s : ℤ) (den num ten a b : ℕ) → r ≡ to_z w64 (of_z w64 m) → s ≡ pos den → a ≡ num → b ≡ ten → FitsSigned w64 m
    → unsigned_abs m < 10 ^ 18 → den ≤ 10 ^ 6 → num ≤ 10 ^ 12 → ten ≤ 10 ^ 18
    → to_z w128 (of_z w128 (to_z w128 (of_z w128 (to_z w128 (of_z w128 r) *ℤ to_z w128 (of_z w128 s))) -ℤ to_z w128 (a * b))) ≡ m *ℤ pos den -ℤ pos (num * ten)
apart_bits m r s den num ten a b er es ea eb fm hm hd hn ht =
    let wide : FitsSigned w128 m = fits_signed_from_abs w128 m (omega arith) in
    let size : unsigned_abs m ≤ 10 ^ 18 = omega arith in
    let left : unsigned_abs m * den ≤ 10 ^ 18 * 10 ^ 6 = mul-le (unsigned_abs m) den (10 ^ 18) (10 ^ 6) size hd in
    let right : num * ten ≤ 10 ^ 12 * 10 ^ 18 = mul-le num ten (10 ^ 12) (10 ^ 18) hn ht in
    let fd : FitsSigned w128 (pos den) = fits_signed_from_abs w128 (pos den) (omega arith) in
    let fl : FitsSigned w128 (m *ℤ pos den) = fits_signed_from_abs w128 (m *ℤ pos den) (omega (arith, unsigned_abs-mul m (pos den))) in
    let small : num * ten < 2 ^ 127 = omega arith in
    let fa : FitsSigned w128 (m *ℤ pos den -ℤ pos (num * ten)) =
    fits_signed_from_abs w128 (m *ℤ pos den -ℤ pos (num * ten)) (omega (arith, apart_small m den num ten hm hd hn ht)) in
    rw (er, es, ea, eb, to_z-of_z w64 m fm, to_z-of_z w128 m wide, to_z-of_z w128 (pos den) fd, to_z-of_z w128 (m *ℤ pos den) fl, to_z_pos w128 (num * ten) small)
    (to_z-of_z w128 (m *ℤ pos den -ℤ pos (num * ten)) fa)

pub apart_bits_small : (m r s : ℤ) (den num ten a b : ℕ) → r ≡ to_z w64 (of_z w64 m) → s ≡ pos den → a ≡ num → b ≡ ten → FitsSigned w64 m
    → unsigned_abs m < 10 ^ 18 → den ≤ 10 ^ 6 → num ≤ 10 ^ 12 → ten ≤ 10 ^ 18
    → unsigned_abs (to_z w128 (of_z w128 (to_z w128 (of_z w128 (to_z w128 (of_z w128 r) *ℤ to_z w128 (of_z w128 s))) -ℤ to_z w128 (a * b)))) ≤ 2 * 10 ^ 30
apart_bits_small m r s den num ten a b er es ea eb fm hm hd hn ht =
    rw (apart_bits m r s den num ten a b er es ea eb fm hm hd hn ht) (apart_small m den num ten hm hd hn ht)

pub own_num : (m : ℤ) → FitsSigned w64 m → le_z (to_z w64 (of_z w64 m)) (pos 0) ≡ false → le_z (pos (10 ^ 12)) (to_z w64 (of_z w64 m)) ≡ false
    → (1 ≤ unsigned_abs (to_z w64 (of_z w64 m))) × (unsigned_abs (to_z w64 (of_z w64 m)) ≤ 10 ^ 12)
own_num m fits low high = rw (to_z-of_z w64 m fits) (within m (rw (to_z-of_z w64 m fits) at low) (rw (to_z-of_z w64 m fits) at high))
  where
    within : (m : ℤ) → le_z m (pos 0) ≡ false → le_z (pos (10 ^ 12)) m ≡ false → (1 ≤ unsigned_abs m) × (unsigned_abs m ≤ 10 ^ 12)
    within (pos n) low high = grind (arith, ints)
    within (negsuc n) low high = absurd (grind (arith, ints))

pub own_den : (p : ℕ) → p ≤ 6 → (1 ≤ 10 ^ p) × (10 ^ p ≤ 10 ^ 6)
own_den p h = let ten : 0 < 10 = omega arith in (one_positive p, pow-le-pow_right ten h)
