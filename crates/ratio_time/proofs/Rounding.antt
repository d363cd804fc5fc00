-- The quotient rounded down, as a whole number of either sign.
use Rattle.std.proofs.Common.{◌≡◌, ℕ, zero, suc, ◌*◌, ◌/◌, ◌^◌, ◌<◌, ◌≤◌, ℤ, pos, negsuc, neg_ℤ, ◌*ℤ◌, ◌≤ℤ◌, ◌-ℤ◌, unsigned_abs, FitsSigned, to_z, of_z, refl, sym, arith, suc-mul, le_of_mul-le-mul_right, mul-le-mul_right}
use Rattle.std.specs.Int.{int_div_euclid, w128}
use Rattle.std.proofs.lemmas.Int.{ints, to_z-of_z, fits_signed_from_abs}
use Rattle.std.proofs.Math.IntN.{+ℤ_idl}
use Rattle.std.specs.Int.Signed.{≤ℤ_refl}
use Rattle.std.proofs.lemmas.Nat.{div-add-mod', div_below, le-div, mod_below}

pub floor_below : (o d : ℤ) → pos 1 ≤ℤ d → (int_div_euclid o d *ℤ d) ≤ℤ o
floor_below (pos a) (pos u) h = omega (arith, ints, div-add-mod' a u)
floor_below (negsuc a) (pos u) h =
    let some : 0 < u = omega (arith, ints) in
    omega (arith, ints, div-add-mod' a u, mod_below a u some, suc-mul (a / u) u)
floor_below o (negsuc u) h = absurd (omega (arith, ints))

pub floor_greatest : (o d g : ℤ) → pos 1 ≤ℤ d → (g *ℤ d) ≤ℤ o → g ≤ℤ int_div_euclid o d
floor_greatest (pos a) (pos u) (pos b) h k =
    let some : 0 < u = omega (arith, ints) in
    let below : b * u ≤ a = omega (arith, ints) in
    omega (arith, ints, le-div b a u some below)
floor_greatest (pos a) (pos u) (negsuc b) h k = omega (arith, ints)
floor_greatest (negsuc a) (pos u) (pos b) h k = absurd (omega (arith, ints))
floor_greatest (negsuc a) (pos u) (negsuc b) h k =
    let some : 0 < u = omega (arith, ints) in
    let below : a < suc b * u = omega (arith, ints) in
    omega (arith, ints, div_below a u (suc b) some below)
floor_greatest o (negsuc u) g h k = absurd (omega (arith, ints))

times_neg : (g : ℤ) (u : ℕ) → neg_ℤ g *ℤ pos u ≡ neg_ℤ (g *ℤ pos u)
times_neg (pos zero) u = let e : zero * u ≡ zero = omega arith in rw e refl
times_neg (pos (suc n)) u = refl
times_neg (negsuc n) u = sym (neg_neg (suc n * u))
  where
    neg_neg : (n : ℕ) → neg_ℤ (neg_ℤ (pos n)) ≡ pos n
    neg_neg zero = refl
    neg_neg (suc n) = refl

-- rounded up: the negative of the negative rounded down
pub ceiling_above : (o d f : ℤ) → pos 1 ≤ℤ d → (f *ℤ d) ≤ℤ neg_ℤ o → o ≤ℤ (neg_ℤ f *ℤ d)
ceiling_above o (pos u) f h k = rw (times_neg f u) (omega (arith, ints))
ceiling_above o (negsuc u) f h k = absurd (omega (arith, ints))

pub ceiling_least : (o d f g : ℤ) → pos 1 ≤ℤ d → ((n : ℤ) → (n *ℤ d) ≤ℤ neg_ℤ o → n ≤ℤ f) → o ≤ℤ (g *ℤ d) → neg_ℤ f ≤ℤ g
ceiling_least o (pos u) f g h greatest k =
    let turned : (neg_ℤ g *ℤ pos u) ≤ℤ neg_ℤ o = rw (times_neg g u) (omega (arith, ints)) in
    omega (arith, ints, greatest (neg_ℤ g) turned)
ceiling_least o (negsuc u) f g h greatest k = absurd (omega (arith, ints))

-- the same of 128 bits, as they come back from a call
pub bits_below : (o d r : ℤ) → FitsSigned w128 o → FitsSigned w128 d → FitsSigned w128 r → pos 1 ≤ℤ d → r ≡ int_div_euclid (to_z w128 (of_z w128 o)) (to_z w128 (of_z w128 d))
    → (to_z w128 (of_z w128 r) *ℤ d) ≤ℤ o
bits_below o d r fo fd fr h e = rw (to_z-of_z w128 r fr, e, to_z-of_z w128 o fo, to_z-of_z w128 d fd) (floor_below o d h)

pub bits_greatest : (o d r g : ℤ) → FitsSigned w128 o → FitsSigned w128 d → FitsSigned w128 r → pos 1 ≤ℤ d → r ≡ int_div_euclid (to_z w128 (of_z w128 o)) (to_z w128 (of_z w128 d))
    → (g *ℤ d) ≤ℤ o → g ≤ℤ to_z w128 (of_z w128 r)
bits_greatest o d r g fo fd fr h e k = rw (to_z-of_z w128 r fr, e, to_z-of_z w128 o fo, to_z-of_z w128 d fd) (floor_greatest o d g h k)

neg_size : (z : ℤ) → unsigned_abs (neg_ℤ z) ≡ unsigned_abs z
neg_size (pos zero) = refl
neg_size (pos (suc n)) = refl
neg_size (negsuc n) = refl

negated : (z : ℤ) → unsigned_abs z ≤ 10 ^ 36 → to_z w128 (of_z w128 (pos 0 -ℤ to_z w128 (of_z w128 z))) ≡ neg_ℤ z
negated z small =
    let fits : FitsSigned w128 z = fits_signed_from_abs w128 z (omega arith) in
    let turned : FitsSigned w128 (neg_ℤ z) = fits_signed_from_abs w128 (neg_ℤ z) (omega (arith, neg_size z)) in
    rw (to_z-of_z w128 z fits, +ℤ_idl (neg_ℤ z)) (to_z-of_z w128 (neg_ℤ z) turned)

pub bits_above : (o d f : ℤ) → unsigned_abs o ≤ 10 ^ 36 → FitsSigned w128 d → unsigned_abs f ≤ 10 ^ 36 → pos 1 ≤ℤ d
    → (f *ℤ to_z w128 (of_z w128 d)) ≤ℤ to_z w128 (of_z w128 (pos 0 -ℤ to_z w128 (of_z w128 o)))
    → o ≤ℤ (to_z w128 (of_z w128 (pos 0 -ℤ to_z w128 (of_z w128 f))) *ℤ d)
bits_above o d f so fd sf h k = rw (negated f sf) (ceiling_above o d f h (rw (to_z-of_z w128 d fd, negated o so) at k))

pub bits_least : (o d f g : ℤ) → unsigned_abs o ≤ 10 ^ 36 → FitsSigned w128 d → unsigned_abs f ≤ 10 ^ 36 → pos 1 ≤ℤ d
    → ((n : ℤ) → (n *ℤ to_z w128 (of_z w128 d)) ≤ℤ to_z w128 (of_z w128 (pos 0 -ℤ to_z w128 (of_z w128 o))) → n ≤ℤ f)
    → o ≤ℤ (g *ℤ d) → to_z w128 (of_z w128 (pos 0 -ℤ to_z w128 (of_z w128 f))) ≤ℤ g
bits_least o d f g so fd sf h greatest k =
    rw (negated f sf) (ceiling_least o d f g h (λ n m. greatest n (rw (to_z-of_z w128 d fd, negated o so) m)) k)

cancel : (f g : ℤ) (u : ℕ) → 1 ≤ u → (f *ℤ pos u) ≤ℤ (g *ℤ pos u) → f ≤ℤ g
cancel (pos a) (pos b) u some h =
    let products : a * u ≤ b * u = omega (arith, ints) in
    omega (arith, ints, le_of_mul-le-mul_right products some)
cancel (pos a) (negsuc b) u some h = absurd (omega (arith, ints, suc-mul b u))
cancel (negsuc a) (pos b) u some h = omega (arith, ints)
cancel (negsuc a) (negsuc b) u some h =
    let products : suc b * u ≤ suc a * u = omega (arith, ints) in
    omega (arith, ints, le_of_mul-le-mul_right products some)

-- a fraction that is a whole number is rounded up and down to it
pub whole_number : (o f up down : ℤ) (u : ℕ) → 1 ≤ u → f *ℤ pos u ≡ o
    → o ≤ℤ (up *ℤ pos u) → ((g : ℤ) → o ≤ℤ (g *ℤ pos u) → up ≤ℤ g)
    → (down *ℤ pos u) ≤ℤ o → ((g : ℤ) → (g *ℤ pos u) ≤ℤ o → g ≤ℤ down)
    → up ≡ down
whole_number o f up down u some on above least below greatest =
    let f_above : o ≤ℤ (f *ℤ pos u) = rw on (≤ℤ_refl o) in
    let f_below : (f *ℤ pos u) ≤ℤ o = rw on (≤ℤ_refl o) in
    let up_f : (f *ℤ pos u) ≤ℤ (up *ℤ pos u) = rw on above in
    let f_down : (down *ℤ pos u) ≤ℤ (f *ℤ pos u) = rw on below in
    omega (arith, ints, least f f_above, greatest f f_below, cancel f up u some up_f, cancel down f u some f_down)

pub one_number : (o f g : ℤ) (u : ℕ) → 1 ≤ u → f *ℤ pos u ≡ o → g *ℤ pos u ≡ o → f ≡ g
one_number o f g u some p q =
    let up : (f *ℤ pos u) ≤ℤ (g *ℤ pos u) = rw (p, q) (≤ℤ_refl o) in
    let down : (g *ℤ pos u) ≤ℤ (f *ℤ pos u) = rw (p, q) (≤ℤ_refl o) in
    omega (arith, ints, cancel f g u some up, cancel g f u some down)

-- a greater count of frames covers as much
pub above_more : (o f g : ℤ) (u : ℕ) → o ≤ℤ (f *ℤ pos u) → f ≤ℤ g → o ≤ℤ (g *ℤ pos u)
above_more o f g u h k = omega (arith, ints, h, times_more f g u k)
  where
    times_more : (f g : ℤ) (u : ℕ) → f ≤ℤ g → (f *ℤ pos u) ≤ℤ (g *ℤ pos u)
    times_more (pos a) (pos b) u k = let n : a ≤ b = omega (arith, ints) in omega (arith, ints, mul-le-mul_right u n)
    times_more (pos a) (negsuc b) u k = absurd (omega (arith, ints))
    times_more (negsuc a) (pos b) u k = omega (arith, ints)
    times_more (negsuc a) (negsuc b) u k = let n : suc b ≤ suc a = omega (arith, ints) in omega (arith, ints, mul-le-mul_right u n)
