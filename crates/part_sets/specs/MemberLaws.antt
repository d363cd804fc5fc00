-- The numbers of a set as a list: in ascending order, and the set again; and the set of such a list as that list again.
use Rattle.std.proofs.Common.{◌≡◌, ◌≢◌, ℕ, zero, suc, ◌+◌, ◌-◌, ◌*◌, ◌/◌, ◌%◌, ◌^◌, ◌<◌, ◌≤◌, ◌⊎◌, inl, inr, Bool, true}
use Rattle.std.proofs.Common.{false, cond, not, ◌&&◌, List, [], ◌∷◌, Option, Some, None, length, refl, sym, ap, ◌∙◌}
use Rattle.std.proofs.Common.{arith, subst, eqb, nat_eq, nat_lt, if◌then◌else◌}
use Rattle.std.proofs.Math.Nat.{div-div-eq-div-mul, pow-suc, pow-succ'}
use Rattle.std.specs.Int.Bits.{bit_and}
use Rattle.std.proofs.lemmas.Bool.{cases_lt, eq-eqb, eqb-false, eqb-true, lt-ltb}
use Rattle.std.proofs.lemmas.Bool.Decides.{nat_tests}
use Rattle.std.proofs.lemmas.Nat.Bits.{shr_and_one}
use Rattle.room_core.specs.Parts.{AscendBetween}
use Rattle.room_core.specs.Whole.{set_of}
use Rattle.part_sets.specs.Members.{first_absent, has, members, members_from}

-- what is left of a set from a number on, by its lowest bit
half : (s t : ℕ) → s / 2 ^ suc t ≡ s / 2 ^ t / 2
half s t = ap (λ (k : ℕ). s / k) (pow-suc 2 t) ∙ sym (div-div-eq-div-mul s (2 ^ t) 2)

odd_left : (p q h : ℕ) → q ≡ 1 + 2 * h → p + p * 2 * h ≡ p * q
odd_left p q h e = omega (arith, ap (λ (k : ℕ). p * k) e)

even_left : (p q h : ℕ) → q ≡ 2 * h → p * 2 * h ≡ p * q
even_left p q h e = omega (arith, ap (λ (k : ℕ). p * k) e)

in_word : (t : ℕ) → t < 32 → cond (nat_lt t 32) (2 ^ t) 0 ≡ 2 ^ t
in_word t h = ap (λ (b : Bool). cond b (2 ^ t) 0) (lt-ltb t 32 h)

bit_odd : (s t : ℕ) → eqb (bit_and (s / 2 ^ t) 1) 1 ≡ true → s / 2 ^ t ≡ 1 + 2 * (s / 2 ^ t / 2)
bit_odd s t e =
    let b : s / 2 ^ t % 2 ≡ 1 = sym (shr_and_one s t) ∙ eqb-true (bit_and (s / 2 ^ t) 1) 1 e in
    odd_of (s / 2 ^ t) b where
      odd_of : (q : ℕ) → q % 2 ≡ 1 → q ≡ 1 + 2 * (q / 2)
      odd_of q b = omega (arith, b)

bit_even : (s t : ℕ) → eqb (bit_and (s / 2 ^ t) 1) 1 ≡ false → s / 2 ^ t ≡ 2 * (s / 2 ^ t / 2)
bit_even s t e = even_of (s / 2 ^ t) (λ b. eqb-false (bit_and (s / 2 ^ t) 1) 1 e (shr_and_one s t ∙ b)) where
  even_of : (q : ℕ) → (q % 2 ≡ 1 → ⊥) → q ≡ 2 * (q / 2)
  even_of q b = omega (arith, b)

fewer : (s t n : ℕ) → s / 2 ^ t < 2 ^ suc n → s / 2 ^ suc t < 2 ^ n
fewer s t n few = below (s / 2 ^ t) (s / 2 ^ suc t) (2 ^ n) (2 ^ suc n) (half s t) (pow-succ' 2 n) few where
  below : (q h m w : ℕ) → h ≡ q / 2 → w ≡ 2 * m → q < w → h < m
  below q h m w e f lt = omega (arith, e, f, lt)

none_left : (p q : ℕ) → q < 2 ^ 0 → 0 ≡ p * q
none_left p q h = let z : q ≡ 0 = omega (arith, h) in omega (arith, ap (λ (k : ℕ). p * k) z)

one_more : (b : Bool) (s t n : ℕ) → t < 32 → eqb (bit_and (s / 2 ^ t) 1) 1 ≡ b
    → set_of (members_from s (suc t) n) ≡ 2 ^ t * 2 * (s / 2 ^ t / 2)
    → set_of (cond b (t ∷ members_from s (suc t) n) (members_from s (suc t) n)) ≡ 2 ^ t * (s / 2 ^ t)
one_more true s t n within e later =
    ap (λ (k : ℕ). k + set_of (members_from s (suc t) n)) (in_word t within)
    ∙ ap (λ (k : ℕ). 2 ^ t + k) later
    ∙ odd_left (2 ^ t) (s / 2 ^ t) (s / 2 ^ t / 2) (bit_odd s t e)
one_more false s t n within e later = later ∙ even_left (2 ^ t) (s / 2 ^ t) (s / 2 ^ t / 2) (bit_even s t e)

set_from : (s t n : ℕ) → t + n ≤ 32 → s / 2 ^ t < 2 ^ n → set_of (members_from s t n) ≡ 2 ^ t * (s / 2 ^ t)
set_from s t zero within few = none_left (2 ^ t) (s / 2 ^ t) few
set_from s t (suc n) within few =
    one_more (has s t) s t n (omega (arith, within)) refl
    (set_from s (suc t) n (omega (arith, within)) (fewer s t n few)
    ∙ ap (λ (k : ℕ). k * (s / 2 ^ suc t)) (pow-suc 2 t) ∙ ap (λ (k : ℕ). 2 ^ t * 2 * k) (half s t))

-- the set of a set's numbers is the set
pub set-members : (s : ℕ) → s < 2 ^ 32 → set_of (members s) ≡ s
unfolding members
set-members s h = let same : s / 2 ^ 0 ≡ s = omega arith in set_from s 0 32 (omega arith) (omega (arith, same, h))
    ∙ omega (arith, same)

-- the set of these numbers, counted from a number that is not above them
abbrev shifted : ℕ → List ℕ → ℕ
shifted n [] = 0
shifted n (m ∷ ms) = 2 ^ (m - n) + shifted n ms

lower : (a b count : ℕ) (ns : List ℕ) → a ≤ b → AscendBetween b count ns → AscendBetween a count ns
lower a b count [] le h = tt
lower a b count (n ∷ ns) le h = (omega (arith, le, h.0), h.1, h.2)

power : (a b : ℕ) → a ≡ suc b → 2 ^ a ≡ 2 * 2 ^ b
power a b e = ap (λ (k : ℕ). 2 ^ k) e ∙ pow-succ' 2 b

twice : (p q x y : ℕ) → p ≡ 2 * q → x ≡ 2 * y → p + x ≡ 2 * (q + y)
twice p q x y e h = omega (arith, e, h)

shifted-double : (n count : ℕ) (ns : List ℕ) → AscendBetween (suc n) count ns → shifted n ns ≡ 2 * shifted (suc n) ns
shifted-double n count [] h = refl
shifted-double n count (m ∷ ms) h =
    let first : 2 ^ (m - n) ≡ 2 * 2 ^ (m - suc n) = power (m - n) (m - suc n) (omega (arith, h.0)) in
    let others = shifted-double n count ms (lower (suc n) (m + 1) count ms (omega (arith, h.0)) h.2) in
    twice (2 ^ (m - n)) (2 ^ (m - suc n)) (shifted n ms) (shifted (suc n) ms) first others

shifted-first : (n m count : ℕ) (ms : List ℕ) → m ≡ n → AscendBetween (suc n) count ms
    → shifted n (m ∷ ms) ≡ 1 + 2 * shifted (suc n) ms
shifted-first n m count ms e h =
    let none : m - n ≡ 0 = omega (arith, e) in
    ap (λ (k : ℕ). 2 ^ k + shifted n ms) none ∙ ap (λ (k : ℕ). 1 + k) (shifted-double n count ms h)

odd_half : (q x : ℕ) → q ≡ 1 + 2 * x → q / 2 ≡ x
odd_half q x e = omega (arith, e)

even_half : (q x : ℕ) → q ≡ 2 * x → q / 2 ≡ x
even_half q x e = omega (arith, e)

odd_bit : (s t x : ℕ) → s / 2 ^ t ≡ 1 + 2 * x → has s t ≡ true
odd_bit s t x e = eq-eqb (bit_and (s / 2 ^ t) 1) 1 (shr_and_one s t ∙ one (s / 2 ^ t) x e) where
  one : (q x : ℕ) → q ≡ 1 + 2 * x → q % 2 ≡ 1
  one q x e = omega (arith, e)

differ : (a b : ℕ) → (a ≡ b → ⊥) → eqb a b ≡ false
differ a b n = by (eqb a b) refl where
  by : (t : Bool) → eqb a b ≡ t → eqb a b ≡ false
  by true e = absurd (n (eqb-true a b e))
  by false e = e

even_bit : (s t x : ℕ) → s / 2 ^ t ≡ 2 * x → has s t ≡ false
even_bit s t x e = differ (bit_and (s / 2 ^ t) 1) 1 (λ one. none (s / 2 ^ t) x e (sym (shr_and_one s t) ∙ one)) where
  none : (q x : ℕ) → q ≡ 2 * x → q % 2 ≡ 1 → ⊥
  none q x e one = omega (arith, e, one)

-- the numbers of a set, one after another, are those that it was made of
with_bit : (s t n : ℕ) (rest : List ℕ) → has s t ≡ true → members_from s (suc t) n ≡ rest
    → members_from s t (suc n) ≡ t ∷ rest
with_bit s t n rest e later = ap (λ (b : Bool). if b then t ∷ members_from s (suc t) n else members_from s (suc t) n) e
    ∙ ap (λ (ns : List ℕ). t ∷ ns) later

without_bit : (s t n : ℕ) (rest : List ℕ) → has s t ≡ false → members_from s (suc t) n ≡ rest
    → members_from s t (suc n) ≡ rest
without_bit s t n rest e later = ap (λ (b : Bool). if b then t ∷ members_from s (suc t) n else members_from s
    (suc t) n) e ∙ later

members_again : (s t n : ℕ) (ns : List ℕ) → AscendBetween t (t + n) ns → s / 2 ^ t ≡ shifted t ns
    → members_from s t n ≡ ns
members_again s t zero [] a e = refl
members_again s t zero (m ∷ ms) a e = absurd (omega (arith, a.0, a.1))
members_again s t (suc n) [] a e =
    let none : s / 2 ^ t ≡ 2 * 0 = e in
    without_bit s t n [] (even_bit s t 0 none) (members_again s (suc t) n [] tt
    (half s t ∙ even_half (s / 2 ^ t) 0 none))
members_again s t (suc n) (m ∷ ms) a e =
    by (cases_lt t m) (λ a e. members_again s (suc t) n (m ∷ ms) a e) (λ a e. members_again s (suc t) n ms a e) where
      all_on : (least : ℕ) (ks : List ℕ) → AscendBetween least (t + suc n) ks → AscendBetween least (suc t + n) ks
      all_on least ks h = let same : t + suc n ≡ suc t + n = omega arith in
          subst (λ (k : ℕ). AscendBetween least k ks) same h

      by : (t < m) ⊎ (m ≤ t)
          → (AscendBetween (suc t) (suc t + n) (m ∷ ms) → s / 2 ^ suc t ≡ shifted (suc t) (m ∷ ms)
          → members_from s (suc t) n ≡ m ∷ ms)
          → (AscendBetween (suc t) (suc t + n) ms → s / 2 ^ suc t ≡ shifted (suc t) ms → members_from s (suc t) n ≡ ms)
          → members_from s t (suc n) ≡ m ∷ ms
      by (inl lt) passed found =
          let above : AscendBetween (suc t) (t + suc n) (m ∷ ms) = (omega (arith, lt), a.1, a.2) in
          let even : s / 2 ^ t ≡ 2 * shifted (suc t) (m ∷ ms) = e ∙ shifted-double t (t + suc n) (m ∷ ms) above in
          without_bit s t n (m ∷ ms) (even_bit s t (shifted (suc t) (m ∷ ms)) even)
          (passed (all_on (suc t) (m ∷ ms) above) (half s t ∙ even_half (s / 2 ^ t) (shifted (suc t) (m ∷ ms)) even))
      by (inr le) passed found =
          let same : m ≡ t = omega (arith, le, a.0) in
          let next : m + 1 ≡ suc t = omega (arith, same) in
          let above : AscendBetween (suc t) (t + suc n) ms = subst (λ (k : ℕ). AscendBetween k (t + suc n) ms)
          next a.2 in
          let odd : s / 2 ^ t ≡ 1 + 2 * shifted (suc t) ms = e ∙ shifted-first t m (t + suc n) ms same above in
          with_bit s t n ms (odd_bit s t (shifted (suc t) ms) odd)
          (found (all_on (suc t) ms above) (half s t ∙ odd_half (s / 2 ^ t) (shifted (suc t) ms) odd))
          ∙ ap (λ (k : ℕ). k ∷ ms) (sym same)

first_bit : (m x y : ℕ) → x ≡ y → 2 ^ m + x ≡ 2 ^ (m - 0) + y
first_bit m x y e = let same : m ≡ m - 0 = omega arith in ap (λ (k : ℕ). 2 ^ m + k) e ∙ ap (λ (k : ℕ). 2 ^ k + y) same

set_of-shifted : (least : ℕ) (ns : List ℕ) → AscendBetween least 32 ns → set_of ns ≡ shifted 0 ns
set_of-shifted least [] h = refl
set_of-shifted least (m ∷ ms) h =
    ap (λ (k : ℕ). k + set_of ms) (in_word m h.1) ∙ first_bit m (set_of ms) (shifted 0 ms)
    (set_of-shifted (m + 1) ms h.2)

-- the numbers of the set of some numbers are these numbers
pub members-set : (ns : List ℕ) → AscendBetween 0 32 ns → members (set_of ns) ≡ ns
unfolding members
members-set ns a =
    let same : set_of ns / 2 ^ 0 ≡ set_of ns = omega arith in
    members_again (set_of ns) 0 32 ns a (same ∙ set_of-shifted 0 ns a)

pub higher : (least count more : ℕ) (ns : List ℕ) → count ≤ more → AscendBetween least count ns
    → AscendBetween least more ns
higher least count more [] le h = tt
higher least count more (n ∷ ns) le h = (h.0, omega (arith, le, h.1), higher (n + 1) count more ns le h.2)

first_below : (count n : ℕ) (ns : List ℕ) → first_absent count (n ∷ ns) ≡ None → (n < count)
    × (first_absent count ns ≡ None)
first_below count n ns h = by (nat_lt n count) refl h where
  by : (b : Bool) → nat_lt n count ≡ b → cond b (first_absent count ns) (Some n) ≡ None → (n < count)
      × (first_absent count ns ≡ None)
  by true e h = (Prim.grind (arith, nat_tests, e), h)
  by false e h = absurd (Prim.grind (arith, h))

ascend_from : (s count t n least : ℕ) → least ≤ t → first_absent count (members_from s t n) ≡ None
    → AscendBetween least count (members_from s t n)
ascend_from s count t zero least le h = tt
ascend_from s count t (suc n) least le h =
    by (has s t) h (ascend_from s count (suc t) n least (omega (arith, le)))
    (ascend_from s count (suc t) n (t + 1) (omega arith)) where
      by : (b : Bool) → first_absent count (cond b (t ∷ members_from s (suc t) n) (members_from s (suc t) n)) ≡ None
          → (first_absent count (members_from s (suc t) n) ≡ None
          → AscendBetween least count (members_from s (suc t) n))
          → (first_absent count (members_from s (suc t) n) ≡ None
          → AscendBetween (t + 1) count (members_from s (suc t) n))
          → AscendBetween least count (cond b (t ∷ members_from s (suc t) n) (members_from s (suc t) n))
      by true h same later = let p = first_below count t (members_from s (suc t) n) h in (le, p.0, later p.1)
      by false h same later = same h

-- the numbers of a set that are all below a count ascend below it
pub ascend : (s count : ℕ) → first_absent count (members s) ≡ None → AscendBetween 0 count (members s)
unfolding members
ascend s count h = ascend_from s count 0 32 0 (omega arith) h

-- ascending numbers below a count are all below it
pub all_below : (least count : ℕ) (ns : List ℕ) → AscendBetween least count ns → first_absent count ns ≡ None
all_below least count [] a = refl
all_below least count (n ∷ ns) a =
    let b : nat_lt n count ≡ true = lt-ltb n count a.1 in
    ap (λ (t : Bool). if t then first_absent count ns else Some n) b ∙ all_below (n + 1) count ns a.2
