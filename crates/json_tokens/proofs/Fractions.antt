-- Numbers of the form k * 10^up / 10^down, and with how many places they are whole.
use Rattle.std.proofs.Common.{◌≡◌, ◌≢◌, ℕ, zero, suc, ◌+◌, ◌-◌, ◌*◌, ◌/◌, ◌%◌, ◌^◌, ◌≤◌, ◌<◌, true, false, cond, ltb, Option, Some, None, refl, sym, ap, ◌∙◌, ◌⊎◌, inl, inr, arith}
use Rattle.std.proofs.lemmas.Bool.{eq-eqb, ne_eqb, cases_lt, le-ltb}
use Rattle.std.proofs.lemmas.Nat.{pow-add, div-add-mod', mul-le}
use Rattle.std.proofs.Math.Nat.{mul-mod_left, mul-div_cancel, one-le-pow, pow-le-pow_right, mul_assoc, pow-suc}
use Rattle.json_tokens.specs.ReadingNumerals.{is_whole, least_places, sized, fraction}

pub ten_pos : (k : ℕ) → 0 < 10 ^ k
ten_pos k = one-le-pow k 10 (omega arith)

pub power_small : (p : ℕ) → p ≤ 18 → 10 ^ p ≤ 10 ^ 18
power_small p le = pow-le-pow_right (omega arith) le

pub mul_cancel : (a b n : ℕ) → 0 < n → a * n ≡ b * n → a ≡ b
mul_cancel a b n pos e = sym (mul-div_cancel a pos) ∙ ap (λ x. x / n) e ∙ mul-div_cancel b pos

-- k * 10^e is large where e is
pub mul_big : (k e : ℕ) → 1 ≤ k → 18 ≤ e → 10 ^ 18 ≤ k * 10 ^ e
mul_big k e h l =
    let p : 10 ^ 18 ≤ 10 ^ e = pow-le-pow_right (omega arith) l in
    let m : 1 * 10 ^ 18 ≤ k * 10 ^ e = mul-le 1 (10 ^ 18) k (10 ^ e) h p in
    omega arith

split_power : (k a d : ℕ) → d ≤ a → k * 10 ^ a ≡ k * 10 ^ (a - d) * 10 ^ d
split_power k a d le =
    let e : a ≡ (a - d) + d = omega arith in
    ap (λ x. k * 10 ^ x) e ∙ ap (λ x. k * x) (pow-add 10 (a - d) d) ∙ sym (mul_assoc k (10 ^ (a - d)) (10 ^ d))

-- ---- whole, and the quotient
pub whole_yes : (k up down p : ℕ) → down ≤ up + p → is_whole k up down p ≡ true
whole_yes k up down p le =
    let e : (k * 10 ^ (up + p)) % 10 ^ down ≡ 0 = ap (λ x. x % 10 ^ down) (split_power k (up + p) down le) ∙ mul-mod_left (k * 10 ^ (up + p - down)) (10 ^ down) in
    eq-eqb _ _ e

pub quotient : (k a down : ℕ) → down ≤ a → k * 10 ^ a / 10 ^ down ≡ k * 10 ^ (a - down)
quotient k a down le = ap (λ x. x / 10 ^ down) (split_power k a down le) ∙ mul-div_cancel (k * 10 ^ (a - down)) (ten_pos down)

-- a number that does not end in 0 is no multiple of a power of ten with fewer zeros
divides : (k a d : ℕ) → a < d → (k * 10 ^ a) % 10 ^ d ≡ 0 → k % 10 ≡ 0
divides k a d lt e =
    let q = k * 10 ^ a / 10 ^ d in
    let r = d - a - 1 in
    let back : q * 10 ^ d ≡ k * 10 ^ a = omega (arith, div-add-mod' (k * 10 ^ a) (10 ^ d)) in
    let parts : d ≡ suc r + a = omega arith in
    let power : 10 ^ d ≡ 10 ^ suc r * 10 ^ a = ap (λ x. 10 ^ x) parts ∙ pow-add 10 (suc r) a in
    let all : q * 10 ^ suc r * 10 ^ a ≡ k * 10 ^ a = mul_assoc q (10 ^ suc r) (10 ^ a) ∙ ap (λ x. q * x) (sym power) ∙ back in
    let one : q * 10 ^ suc r ≡ k = mul_cancel (q * 10 ^ suc r) k (10 ^ a) (ten_pos a) all in
    let ten : q * 10 ^ r * 10 ≡ k = mul_assoc q (10 ^ r) 10 ∙ ap (λ x. q * x) (sym (pow-suc 10 r)) ∙ one in
    ap (λ x. x % 10) (sym ten) ∙ mul-mod_left (q * 10 ^ r) 10

pub whole_no : (k up down p : ℕ) → k % 10 ≢ 0 → up + p < down → is_whole k up down p ≡ false
whole_no k up down p last lt = ne_eqb _ _ (λ e. last (divides k (up + p) down lt e))

-- ---- the least places
module _ (n up down : ℕ) where
  found_if : (more p e : ℕ) → (p < e) ⊎ (e ≤ p) → p ≤ e → ((q : ℕ) → q < e → is_whole n up down q ≡ false) → is_whole n up down e ≡ true
      → (p < e → least_places n up down more (p + 1) ≡ Some e) → least_places n up down (suc more) p ≡ Some e
  unfolding least_places
  found_if more p e (inl less) le before here_it_is later = rw (before p less) (later less)
  found_if more p e (inr more_or_same) le before here_it_is later =
      let same : e ≡ p = omega arith in
      let here : is_whole n up down p ≡ true = ap (is_whole n up down) (sym same) ∙ here_it_is in
      rw here (ap Some (sym same))

  pub found_at : (more p e : ℕ) → p ≤ e → e < p + more → ((q : ℕ) → q < e → is_whole n up down q ≡ false) → is_whole n up down e ≡ true → least_places n up down more p ≡ Some e
  found_at zero p e le lt before here_it_is = absurd (omega arith)
  found_at (suc more) p e le lt before here_it_is = found_if more p e (cases_lt p e) le before here_it_is (λ less. found_at more (p + 1) e (omega arith) (omega arith) before here_it_is)

  found_none : (more p : ℕ) → ((q : ℕ) → q < p + more → is_whole n up down q ≡ false) → least_places n up down more p ≡ None
  unfolding least_places
  found_none zero p never = refl
  found_none (suc more) p never = rw (never p (omega arith)) (found_none more (p + 1) (λ q lt. never q (omega arith)))

-- ---- the fraction, where k does not end in 0
abbrev pub small : ℕ → ℕ → Option (ℕ × ℕ)
small size places = cond (ltb size (10 ^ 18)) (Some (size, places)) None

pub fraction_up : (k up down : ℕ) → down ≤ up → fraction k up down ≡ small (k * 10 ^ (up - down)) 0
unfolding fraction
fraction_up k up down le =
    let found = found_at k up down 19 0 0 (omega arith) (omega arith) (λ q lt. absurd (omega arith)) (whole_yes k up down 0 (omega arith)) in
    let size : k * 10 ^ (up + 0) / 10 ^ down ≡ k * 10 ^ (up - down) = quotient k (up + 0) down (omega arith) ∙ ap (λ x. k * 10 ^ x) (omega arith) in
    rw found (ap (λ x. small x 0) size)

pub fraction_down : (k up down : ℕ) → k % 10 ≢ 0 → up < down → down - up ≤ 18 → fraction k up down ≡ small k (down - up)
unfolding fraction
fraction_down k up down last lt few =
    let e = down - up in
    let found = found_at k up down 19 0 e (omega arith) (omega arith) (λ q less. whole_no k up down q last (omega arith)) (whole_yes k up down e (omega arith)) in
    let none : up + e - down ≡ 0 = omega arith in
    let size : k * 10 ^ (up + e) / 10 ^ down ≡ k = quotient k (up + e) down (omega arith) ∙ ap (λ x. k * 10 ^ x) none ∙ omega arith in
    rw found (ap (λ x. small x e) size)

pub fraction_far : (k up down : ℕ) → k % 10 ≢ 0 → up + 18 < down → fraction k up down ≡ None
unfolding fraction
fraction_far k up down last far =
    rw (found_none k up down 19 0 (λ q lt. whole_no k up down q last (omega arith))) refl

-- ---- zeros behind a number count as moved places
zeros_moved : (k z up p : ℕ) → k * 10 ^ z * 10 ^ (up + p) ≡ k * 10 ^ (z + up + p)
zeros_moved k z up p = mul_assoc k (10 ^ z) (10 ^ (up + p)) ∙ ap (λ x. k * x) (sym (pow-add 10 z (up + p))) ∙ ap (λ x. k * 10 ^ x) (omega arith)

places_moved : (k z up down more p : ℕ) → least_places (k * 10 ^ z) up down more p ≡ least_places k (z + up) down more p
unfolding least_places
places_moved k z up down zero p = refl
places_moved k z up down (suc more) p = rw (zeros_moved k z up p, places_moved k z up down more (p + 1)) refl

sized_moved : (k z up down : ℕ) (o : Option ℕ) → sized (k * 10 ^ z) up down o ≡ sized k (z + up) down o
sized_moved k z up down None = refl
sized_moved k z up down (Some p) = ap (λ x. small (x / 10 ^ down) p) (zeros_moved k z up p)

pub fraction_moved : (k z up down : ℕ) → fraction (k * 10 ^ z) up down ≡ fraction k (z + up) down
unfolding fraction
fraction_moved k z up down = sized_moved k z up down (least_places (k * 10 ^ z) up down 19 0) ∙ ap (sized k (z + up) down) (places_moved k z up down 19 0)

pub small_not : (size places : ℕ) → 10 ^ 18 ≤ size → small size places ≡ None
small_not size places le = rw (le-ltb size (10 ^ 18) le) refl

-- too many digits that are not zeros behind it
pub fraction_many : (k up down : ℕ) → k % 10 ≢ 0 → 10 ^ 18 ≤ k → fraction k up down ≡ None
fraction_many k up down last many =
    elim (cases_lt up down) [
      | inl lt ↦ elim (cases_lt (up + 18) down) [
        | inl far ↦ fraction_far k up down last far
        | inr near ↦ fraction_down k up down last lt (omega arith) ∙ small_not k (down - up) many
      ]
      | inr le ↦
          let m : k * 1 ≤ k * 10 ^ (up - down) = mul-le k 1 k (10 ^ (up - down)) (omega arith) (ten_pos (up - down)) in
          fraction_up k up down le ∙ small_not (k * 10 ^ (up - down)) 0 (omega arith)
    ]

-- nothing
pub fraction_zero : (up down : ℕ) → fraction 0 up down ≡ Some (0, 0)
unfolding fraction
fraction_zero up down =
    let none : (x : ℕ) → 0 * x ≡ 0 = λ x. omega arith in
    let here_it_is : is_whole 0 up down 0 ≡ true = eq-eqb _ _ (ap (λ x. x % 10 ^ down) (none (10 ^ (up + 0))) ∙ omega arith) in
    let found = found_at 0 up down 19 0 0 (omega arith) (omega arith) (λ q lt. absurd (omega arith)) here_it_is in
    let size : 0 * 10 ^ (up + 0) / 10 ^ down ≡ 0 = ap (λ x. x / 10 ^ down) (none (10 ^ (up + 0))) ∙ omega arith in
    rw found (ap (λ x. small x 0) size)
