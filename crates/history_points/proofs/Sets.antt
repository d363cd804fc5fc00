-- The numbers of a set, taken from its lowest bit on.
use Rattle.std.proofs.Common.{append_assoc, ◌≡◌, ℕ, suc, ◌+◌, ◌-◌, ◌*◌, ◌/◌, ◌%◌, ◌^◌, ◌<◌, ◌≤◌, ◌≢◌, ◌⊎◌, inl, inr, Bool, true, false, nat_lt, List, [], ◌∷◌, ◌++◌, refl, sym, ap, ◌∙◌, arith, subst, if◌then◌else◌, Result, Ok, Err, IfOk, Vec, Global}
use Rattle.std.proofs.Math.Nat.{pow-succ'}
use Rattle.std.proofs.lemmas.Bool.{cases_lt}
use Rattle.std.proofs.lemmas.Bool.Decides.{nat_tests}
use Rattle.std.proofs.lemmas.List.{append-nil}
use Rattle.room_core.specs.Parts.{AscendBetween}
use Rattle.room_core.specs.Whole.{set_of}

-- the set of these numbers, counted from a number that is not above them
abbrev pub shifted : ℕ → List ℕ → ℕ
shifted n [] = 0
shifted n (m ∷ ms) = 2 ^ (m - n) + shifted n ms

-- the numbers of a set from n on, when those below it are listed
pub record Rest (count n left : ℕ) (listed names : List ℕ) : Type 0 where
  pub rest : List ℕ
  pub ascend : AscendBetween n count rest
  pub left_is : left ≡ shifted n rest
  pub same : listed ++ rest ≡ names

pub lower : (a b count : ℕ) (ns : List ℕ) → a ≤ b → AscendBetween b count ns → AscendBetween a count ns
lower a b count [] le h = tt
lower a b count (n ∷ ns) le h = (omega (arith, le, h.0), h.1, h.2)

power : (a b : ℕ) → a ≡ suc b → 2 ^ a ≡ 2 * 2 ^ b
power a b e = ap (λ (k : ℕ). 2 ^ k) e ∙ pow-succ' 2 b

twice : (p q r x y z : ℕ) → p ≡ 2 * q → x ≡ 2 * y → p + x ≡ 2 * (q + y)
twice p q r x y z e h = omega (arith, e, h)

shifted-double : (n count : ℕ) (ns : List ℕ) → AscendBetween (n + 1) count ns → shifted n ns ≡ 2 * shifted (n + 1) ns
shifted-double n count [] h = refl
shifted-double n count (m ∷ ms) h =
    let first : 2 ^ (m - n) ≡ 2 * 2 ^ (m - (n + 1)) = power (m - n) (m - (n + 1)) (omega (arith, h.0)) in
    let others = shifted-double n count ms (lower (n + 1) (m + 1) count ms (omega (arith, h.0)) h.2) in
    twice (2 ^ (m - n)) (2 ^ (m - (n + 1))) 0 (shifted n ms) (shifted (n + 1) ms) 0 first others

-- a first number that is the least there can be gives the lowest bit
shifted-first : (n m count : ℕ) (ms : List ℕ) → n ≤ m → m ≤ n → AscendBetween (m + 1) count ms → shifted n (m ∷ ms) ≡ 1 + 2 * shifted (n + 1) ms
shifted-first n m count ms le ge h =
    let none : m - n ≡ 0 = omega (arith, le, ge) in
    ap (λ (k : ℕ). 2 ^ k + shifted n ms) none ∙ ap (λ (k : ℕ). 1 + k) (shifted-double n count ms (lower (n + 1) (m + 1) count ms (omega (arith, le)) h))

odd_half : (left x : ℕ) → left ≡ 1 + 2 * x → left / 2 ≡ x
odd_half left x e = omega (arith, e)

even_half : (left x : ℕ) → left ≡ 2 * x → left / 2 ≡ x
even_half left x e = omega (arith, e)

not_odd : (left x : ℕ) → left ≡ 2 * x → left % 2 ≡ 1 → ⊥
not_odd left x e h = omega (arith, e, h)

not_even : (left x : ℕ) → left ≡ 1 + 2 * x → left % 2 ≢ 1 → ⊥
not_even left x e h = h (omega (arith, e))

with_first : (count n m left : ℕ) (ms listed names : List ℕ) → (n < m) ⊎ (m ≤ n) → AscendBetween n count (m ∷ ms) → left ≡ shifted n (m ∷ ms)
    → listed ++ m ∷ ms ≡ names → left % 2 ≡ 1 → Rest count (n + 1) (left / 2) (listed ++ n ∷ []) names
with_first count n m left ms listed names (inl lt) a is same odd =
    absurd (not_odd left (shifted (n + 1) (m ∷ ms)) (is ∙ shifted-double n count (m ∷ ms) (omega (arith, lt), a.1, a.2)) odd)
with_first count n m left ms listed names (inr le) a is same odd =
    let e : m ≡ n = omega (arith, le, a.0) in
    record {
      rest = ms;
      ascend = subst (λ k. AscendBetween (k + 1) count ms) e a.2;
      left_is = odd_half left (shifted (n + 1) ms) (is ∙ shifted-first n m count ms a.0 le a.2);
      same = append_assoc listed (n ∷ []) ms ∙ (ap (λ k. listed ++ k ∷ ms) (sym e) ∙ same);
    }

without_first : (count n m left : ℕ) (ms listed names : List ℕ) → (n < m) ⊎ (m ≤ n) → AscendBetween n count (m ∷ ms) → left ≡ shifted n (m ∷ ms)
    → listed ++ m ∷ ms ≡ names → left % 2 ≢ 1 → Rest count (n + 1) (left / 2) listed names
without_first count n m left ms listed names (inl lt) a is same even =
    let higher : AscendBetween (n + 1) count (m ∷ ms) = (omega (arith, lt), a.1, a.2) in
    record { rest = m ∷ ms; ascend = higher; left_is = even_half left (shifted (n + 1) (m ∷ ms)) (is ∙ shifted-double n count (m ∷ ms) higher); same = same }
without_first count n m left ms listed names (inr le) a is same even =
    absurd (not_even left (shifted (n + 1) ms) (is ∙ shifted-first n m count ms a.0 le a.2) even)

next_listed : (count n left : ℕ) (rest listed names : List ℕ) → AscendBetween n count rest → left ≡ shifted n rest → listed ++ rest ≡ names
    → left % 2 ≡ 1 → Rest count (n + 1) (left / 2) (listed ++ n ∷ []) names
next_listed count n left [] listed names a is same odd = absurd (not_odd left 0 is odd)
next_listed count n left (m ∷ ms) listed names a is same odd = with_first count n m left ms listed names (cases_lt n m) a is same odd

next_passed : (count n left : ℕ) (rest listed names : List ℕ) → AscendBetween n count rest → left ≡ shifted n rest → listed ++ rest ≡ names
    → left % 2 ≢ 1 → Rest count (n + 1) (left / 2) listed names
next_passed count n left [] listed names a is same even = record { rest = []; ascend = tt; left_is = even_half left 0 is; same = same }
next_passed count n left (m ∷ ms) listed names a is same even = without_first count n m left ms listed names (cases_lt n m) a is same even

pub listed_next : (count n left : ℕ) (listed names : List ℕ) → Rest count n left listed names → left % 2 ≡ 1
    → Rest count (n + 1) (left / 2) (listed ++ n ∷ []) names
listed_next count n left listed names r odd = next_listed count n left r.rest listed names r.ascend r.left_is r.same odd

pub passed_next : (count n left : ℕ) (listed names : List ℕ) → Rest count n left listed names → left % 2 ≢ 1
    → Rest count (n + 1) (left / 2) listed names
passed_next count n left listed names r even = next_passed count n left r.rest listed names r.ascend r.left_is r.same even

bit_within : (b : Bool) (m count x : ℕ) → nat_lt m count ≡ b → m < count → (if b then x else 0) ≡ x
bit_within true m count x e h = refl
bit_within false m count x e h = absurd (Prim.grind (arith, nat_tests, e, h))

first_bit : (m x y : ℕ) → 2 ^ m + x ≡ 2 ^ m + y → 2 ^ m + x ≡ 2 ^ (m - 0) + y
first_bit m x y e = let same : m ≡ m - 0 = omega arith in e ∙ ap (λ (k : ℕ). 2 ^ k + y) same

set_of-shifted : (least : ℕ) (ns : List ℕ) → AscendBetween least 32 ns → set_of ns ≡ shifted 0 ns
set_of-shifted least [] h = refl
set_of-shifted least (m ∷ ms) h =
    ap (λ (k : ℕ). k + set_of ms) (bit_within (nat_lt m 32) m 32 (2 ^ m) refl h.1)
    ∙ first_bit m (set_of ms) (shifted 0 ms) (ap (λ (k : ℕ). 2 ^ m + k) (set_of-shifted (m + 1) ms h.2))

pub rest_of_all : (set : ℕ) (names : List ℕ) → AscendBetween 0 32 names → set_of names ≡ set → Rest 32 0 set [] names
rest_of_all set names a is = record { rest = names; ascend = a; left_is = sym is ∙ set_of-shifted 0 names a; same = refl }

no_more : (count n : ℕ) (rest listed names : List ℕ) → count ≤ n → AscendBetween n count rest → listed ++ rest ≡ names → listed ≡ names
no_more count n [] listed names le a same = sym (append-nil listed) ∙ same
no_more count n (m ∷ ms) listed names le a same = absurd (omega (arith, le, a.0, a.1))

pub all_listed : (count n left : ℕ) (listed names : List ℕ) → count ≤ n → Rest count n left listed names → listed ≡ names
all_listed count n left listed names le r = no_more count n r.rest listed names le r.ascend r.same

pub higher : (least count more : ℕ) (ns : List ℕ) → count ≤ more → AscendBetween least count ns → AscendBetween least more ns
higher least count more [] le h = tt
higher least count more (n ∷ ns) le h = (h.0, omega (arith, le, h.1), higher (n + 1) count more ns le h.2)

pub of_names : {E : Type 0} (result : Result (Vec ℕ Global) E) (names : List ℕ) (set : ℕ) → AscendBetween 0 32 names → set_of names ≡ set
    → IfOk result (λ v. (ns : List ℕ) → AscendBetween 0 32 ns → set_of ns ≡ set → v.items ≡ ns) → IfOk result (λ v. v.items ≡ names)
of_names (Ok v) names set a is h = h names a is
of_names (Err e) names set a is h = tt
