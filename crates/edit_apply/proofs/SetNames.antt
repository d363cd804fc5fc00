-- The tracks of a set, as a set again.
use Rattle.std.proofs.Common.{◌≡◌, ℕ, zero, suc, ◌+◌, ◌*◌, ◌/◌, ◌%◌, ◌^◌, ◌<◌, ◌≤◌, Bool, true, false, cond, ◌∷◌, refl, sym, ap, ◌∙◌, arith, eqb, nat_lt}
use Rattle.std.proofs.Math.Nat.{div-div-eq-div-mul, pow-suc, pow-succ'}
use Rattle.std.specs.Int.Bits.{bit_and}
use Rattle.std.proofs.lemmas.Bool.{eqb-false, eqb-true, lt-ltb}
use Rattle.std.proofs.lemmas.Nat.Bits.{shr_and_one}
use Rattle.composables.specs.TrackSets.{has_track, tracks_from, tracks_in}
use Rattle.room_core.specs.Whole.{set_of}

-- what is left of a set from a track on, by its lowest bit
half : (s t : ℕ) → s / 2 ^ suc t ≡ s / 2 ^ t / 2
half s t = ap (λ (k : ℕ). s / k) (pow-suc 2 t) ∙ sym (div-div-eq-div-mul s (2 ^ t) 2)

odd_left : (p q h : ℕ) → q ≡ 1 + 2 * h → p + p * 2 * h ≡ p * q
odd_left p q h e = omega (arith, ap (λ (k : ℕ). p * k) e)

even_left : (p q h : ℕ) → q ≡ 2 * h → p * 2 * h ≡ p * q
even_left p q h e = omega (arith, ap (λ (k : ℕ). p * k) e)

in_word : (t : ℕ) → t < 32 → cond (nat_lt t 32) (2 ^ t) 0 ≡ 2 ^ t
in_word t h = ap (λ (b : Bool). cond b (2 ^ t) 0) (lt-ltb t 32 h)

bit_odd : (s t : ℕ) → eqb (bit_and (s / 2 ^ t) 1) 1 ≡ true → s / 2 ^ t ≡ 1 + 2 * (s / 2 ^ t / 2)
bit_odd s t e =
    let b : s / 2 ^ t % 2 ≡ 1 = sym (shr_and_one s t) ∙ eqb-true (bit_and (s / 2 ^ t) 1) 1 e in
    odd_of (s / 2 ^ t) b where
      odd_of : (q : ℕ) → q % 2 ≡ 1 → q ≡ 1 + 2 * (q / 2)
      odd_of q b = omega (arith, b)

bit_even : (s t : ℕ) → eqb (bit_and (s / 2 ^ t) 1) 1 ≡ false → s / 2 ^ t ≡ 2 * (s / 2 ^ t / 2)
bit_even s t e = even_of (s / 2 ^ t) (λ b. eqb-false (bit_and (s / 2 ^ t) 1) 1 e (shr_and_one s t ∙ b)) where
  even_of : (q : ℕ) → (q % 2 ≡ 1 → ⊥) → q ≡ 2 * (q / 2)
  even_of q b = omega (arith, b)

fewer : (s t n : ℕ) → s / 2 ^ t < 2 ^ suc n → s / 2 ^ suc t < 2 ^ n
fewer s t n few = below (s / 2 ^ t) (s / 2 ^ suc t) (2 ^ n) (2 ^ suc n) (half s t) (pow-succ' 2 n) few where
  below : (q h m w : ℕ) → h ≡ q / 2 → w ≡ 2 * m → q < w → h < m
  below q h m w e f lt = omega (arith, e, f, lt)

none_left : (p q : ℕ) → q < 2 ^ 0 → 0 ≡ p * q
none_left p q h = let z : q ≡ 0 = omega (arith, h) in omega (arith, ap (λ (k : ℕ). p * k) z)

one_more : (b : Bool) (s t n : ℕ) → t < 32 → eqb (bit_and (s / 2 ^ t) 1) 1 ≡ b → set_of (tracks_from s (suc t) n) ≡ 2 ^ t * 2 * (s / 2 ^ t / 2)
    → set_of (cond b (t ∷ tracks_from s (suc t) n) (tracks_from s (suc t) n)) ≡ 2 ^ t * (s / 2 ^ t)
one_more true s t n within e later =
    ap (λ (k : ℕ). k + set_of (tracks_from s (suc t) n)) (in_word t within)
    ∙ ap (λ (k : ℕ). 2 ^ t + k) later
    ∙ odd_left (2 ^ t) (s / 2 ^ t) (s / 2 ^ t / 2) (bit_odd s t e)
one_more false s t n within e later = later ∙ even_left (2 ^ t) (s / 2 ^ t) (s / 2 ^ t / 2) (bit_even s t e)

-- those from a track on
set_from : (s t n : ℕ) → t + n ≤ 32 → s / 2 ^ t < 2 ^ n → set_of (tracks_from s t n) ≡ 2 ^ t * (s / 2 ^ t)
set_from s t zero within few = none_left (2 ^ t) (s / 2 ^ t) few
set_from s t (suc n) within few =
    one_more (has_track s t) s t n (omega (arith, within)) refl
    (set_from s (suc t) n (omega (arith, within)) (fewer s t n few)
    ∙ ap (λ (k : ℕ). k * (s / 2 ^ suc t)) (pow-suc 2 t) ∙ ap (λ (k : ℕ). 2 ^ t * 2 * k) (half s t))

pub set-tracks : (s : ℕ) → s < 2 ^ 32 → set_of (tracks_in s) ≡ s
unfolding tracks_in
set-tracks s h = let same : s / 2 ^ 0 ≡ s = omega arith in set_from s 0 32 (omega arith) (omega (arith, same, h)) ∙ omega (arith, same)
