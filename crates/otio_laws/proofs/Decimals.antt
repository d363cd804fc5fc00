-- The canonical text of a whole number is its decimal digits.
use Rattle.std.proofs.Common.{◌≡◌, ℕ, zero, suc, ◌+◌, ◌*◌, ◌/◌, ◌%◌, ◌^◌, ◌≤◌, ◌<◌, pos, Bool, true, false, cond, ltb, List, [], ◌∷◌, ◌++◌, refl, sym, ap, subst, ◌∙◌, ◌⊎◌, inl, inr, arith}
use Rattle.std.specs.Prelude.{decimal}
use Rattle.std.proofs.lemmas.Bool.{ltb-true, ltb-false}
use Rattle.std.proofs.lemmas.Nat.{div-add-mod', div-mul-add, div_below, le-div, mod_below}
use Rattle.std.proofs.Math.Nat.{mul_assoc, pow-suc}
use Rattle.std.proofs.lemmas.Fmt.{decimal_digit, decimal_step}
use Rattle.json_tree.specs.Writing.{last_digits, digits_needed, whole_text, numeral_text}

ten_some : (k : ℕ) → 0 < 10 ^ k
ten_some zero = omega arith
ten_some (suc k) = omega (arith, pow-suc 10 k, ten_some k)

-- dividing by ten and then by another number
div_ten : (n m : ℕ) → 0 < m → n / (m * 10) ≡ n / 10 / m
div_ten n m some =
    let q = n / 10 / m in
    let r = n / 10 % m in
    let parts : n / 10 ≡ q * m + r = sym (div-add-mod' (n / 10) m) in
    let low : r < m = mod_below (n / 10) m some in
    let shift : q * (m * 10) ≡ q * m * 10 = sym (mul_assoc q m 10) in
    let sum : n ≡ q * (m * 10) + (r * 10 + n % 10) = omega arith in
    ap (λ (x : ℕ). x / (m * 10)) sum ∙ div-mul-add q (m * 10) (r * 10 + n % 10) (omega arith)

-- the last digits are those of the front, and the last one
last_digits_end : (k n : ℕ) → last_digits n (suc k) ≡ last_digits (n / 10) k ++ ((48 + n % 10) ∷ [])
last_digits_end zero n =
    let e : n / 10 ^ 0 ≡ n = omega arith in
    ap (λ (d : ℕ). (48 + d % 10) ∷ []) e
last_digits_end (suc k) n =
    let e : n / 10 ^ suc k ≡ n / 10 / 10 ^ k = ap (λ (p : ℕ). n / p) (pow-suc 10 k) ∙ div_ten n (10 ^ k) (ten_some k) in
    ap (λ (d : ℕ). (48 + d % 10) ∷ last_digits n (suc k)) e ∙ ap (λ (l : List ℕ). (48 + n / 10 / 10 ^ k % 10) ∷ l) (last_digits_end k n)

-- so many digits write the number
digits_are_decimal : (k n : ℕ) → n < 10 ^ suc k → (k ≡ 0) ⊎ (10 ^ k ≤ n) → n < 2 ^ 64 → last_digits n (suc k) ≡ decimal n
digits_are_decimal zero n lt least small =
    let e : n / 10 ^ 0 % 10 ≡ n = omega arith in
    ap (λ (d : ℕ). (48 + d) ∷ []) e ∙ sym (decimal_digit n (omega arith))
digits_are_decimal (suc k) n lt (inl e) small = absurd (omega arith)
digits_are_decimal (suc k) n lt (inr le) small =
    let power : 10 ^ suc k ≡ 10 ^ k * 10 = pow-suc 10 k in
    let more : 10 ^ suc (suc k) ≡ 10 ^ suc k * 10 = pow-suc 10 (suc k) in
    let ten : 10 ≤ n = omega (arith, ten_some k) in
    let below : n / 10 < 10 ^ suc k = div_below n 10 (10 ^ suc k) (omega arith) (omega arith) in
    let least : 10 ^ k ≤ n / 10 = le-div (10 ^ k) n 10 (omega arith) (omega arith) in
    last_digits_end (suc k) n
    ∙ ap (λ (l : List ℕ). l ++ ((48 + n % 10) ∷ [])) (digits_are_decimal k (n / 10) below (inr least) (omega arith))
    ∙ sym (decimal_step n ten small)

-- the digits that a number needs, from some count of them on, write it
needed_if : (t : Bool) (n more count : ℕ) → ltb n (10 ^ suc count) ≡ t → n < 2 ^ 64 → (count ≡ 0) ⊎ (10 ^ count ≤ n)
    → ((10 ^ suc count ≤ n) → last_digits n (digits_needed n more (suc count + 1)) ≡ decimal n)
    → last_digits n (cond t (suc count) (digits_needed n more (suc count + 1))) ≡ decimal n
needed_if true n more count e small least rec = digits_are_decimal count n (ltb-true n (10 ^ suc count) e) least small
needed_if false n more count e small least rec = rec (ltb-false n (10 ^ suc count) e)

needed_from : (more count n : ℕ) → suc count + more ≡ 18 → n < 10 ^ 18 → (count ≡ 0) ⊎ (10 ^ count ≤ n) → last_digits n (digits_needed n more (suc count)) ≡ decimal n
unfolding digits_needed
needed_from zero count n sum lt least =
    let full : 18 ≡ suc count = omega arith in
    digits_are_decimal count n (subst (λ (k : ℕ). n < 10 ^ k) full lt) least (omega arith)
needed_from (suc more) count n sum lt least =
    let same : suc (suc count) ≡ suc count + 1 = omega arith in
    needed_if (ltb n (10 ^ suc count)) n more count refl (omega arith) least
    (λ le. subst (λ (k : ℕ). last_digits n (digits_needed n more k) ≡ decimal n) same (needed_from more (suc count) n (omega arith) lt (inr le)))

whole_is_decimal : (n : ℕ) → n < 10 ^ 18 → whole_text n ≡ decimal n
unfolding whole_text
whole_is_decimal n lt = needed_from 17 0 n refl lt (inl refl)

pub numeral_is_decimal : (n : ℕ) → n < 10 ^ 18 → numeral_text (pos n) 0 ≡ decimal n ++ 46 ∷ 48 ∷ []
unfolding numeral_text
numeral_is_decimal n lt =
    let e : n / 10 ^ 0 ≡ n = omega arith in
    ap (λ (m : ℕ). whole_text m ++ 46 ∷ 48 ∷ []) e ∙ ap (λ (l : List ℕ). l ++ 46 ∷ 48 ∷ []) (whole_is_decimal n lt)
