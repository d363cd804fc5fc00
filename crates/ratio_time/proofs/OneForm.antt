-- A number has one form with the least places.
use Rattle.std.proofs.Common.{◌≡◌, ℕ, suc, ◌+◌, ◌-◌, ◌*◌, ◌%◌, ◌^◌, ◌<◌, ◌≤◌, ℤ, pos, ◌*ℤ◌, unsigned_abs, ◌⊎◌, inl, inr, refl, arith, ap, sym, ◌∙◌, mul_assoc, mul_comm, le_of_mul-le-mul_right}
use Rattle.std.proofs.Math.Nat.{pow-suc, mul-mod_left}
use Rattle.std.proofs.lemmas.Nat.{pow-add}
use Rattle.std.proofs.lemmas.Bool.{cases_order}
use Rattle.std.proofs.lemmas.Int.{unsigned_abs-mul}
use Rattle.ratio_time.specs.Numerals.{SameNumber, HasLeastPlaces}
use Rattle.ratio_time.proofs.Products.{one_positive}
use Rattle.ratio_time.proofs.Rounding.{one_number}

cancel : (a b c : ℕ) → 1 ≤ c → a * c ≡ b * c → a ≡ b
cancel a b c some same =
    let up : a * c ≤ b * c = omega arith in
    let down : b * c ≤ a * c = omega arith in
    omega (arith, le_of_mul-le-mul_right up some, le_of_mul-le-mul_right down some)

-- where another form of the number has more places, those are zeros
ends : (a b p k : ℕ) → a * 10 ^ p ≡ b * 10 ^ (p + suc k) → a % 10 ≡ 0
ends a b p k same =
    let tens : b * 10 ^ k * 10 * 10 ^ p ≡ b * 10 ^ (p + suc k) =
    mul_assoc (b * 10 ^ k) 10 (10 ^ p) ∙ (mul_assoc b (10 ^ k) (10 * 10 ^ p)
    ∙ ap (λ n. b * n) (ap (λ n. 10 ^ k * n) (mul_comm 10 (10 ^ p)) ∙ (sym (mul_assoc (10 ^ k) (10 ^ p) 10) ∙ (ap (λ n. n * 10) (mul_comm (10 ^ k) (10 ^ p)) ∙ (mul_assoc (10 ^ p) (10 ^ k) 10 ∙ (ap (λ n. 10 ^ p * n) (sym (pow-suc 10 k)) ∙ sym (pow-add 10 p (suc k)))))))) in
    let is : a ≡ b * 10 ^ k * 10 = cancel a (b * 10 ^ k * 10) (10 ^ p) (one_positive p) (same ∙ sym tens) in
    rw is (mul-mod_left (b * 10 ^ k) 10)

sizes : (m n : ℤ) (p q : ℕ) → SameNumber m p n q → unsigned_abs m * 10 ^ q ≡ unsigned_abs n * 10 ^ p
sizes m n p q same = sym (unsigned_abs-mul m (pos (10 ^ q))) ∙ (ap unsigned_abs same ∙ unsigned_abs-mul n (pos (10 ^ p)))

not_fewer : (m n : ℤ) (p q : ℕ) → HasLeastPlaces n q → SameNumber m p n q → p < q → ⊥
not_fewer m n p q least same fewer =
    let more : p + suc (q - p - 1) ≡ q = omega arith in
    let some : 0 < q = omega arith in
    least some (ends (unsigned_abs n) (unsigned_abs m) p (q - p - 1) (sym (sizes m n p q same) ∙ ap (λ k. unsigned_abs m * 10 ^ k) (sym more)))

same_places : (m n : ℤ) (p q : ℕ) → HasLeastPlaces m p → HasLeastPlaces n q → SameNumber m p n q → (p ≡ q) ⊎ ((p < q) ⊎ (q < p)) → p ≡ q
same_places m n p q lm ln same (inl e) = e
same_places m n p q lm ln same (inr (inl fewer)) = absurd (not_fewer m n p q ln same fewer)
same_places m n p q lm ln same (inr (inr more)) = absurd (not_fewer n m q p lm (sym same) more)

pub one_form_lem : (m n : ℤ) (p q : ℕ) → HasLeastPlaces m p → HasLeastPlaces n q → SameNumber m p n q → (m ≡ n) × (p ≡ q)
one_form_lem m n p q lm ln same =
    let places = same_places m n p q lm ln same (cases_order p q) in
    let level : m *ℤ pos (10 ^ q) ≡ n *ℤ pos (10 ^ q) = same ∙ ap (λ k. n *ℤ pos (10 ^ k)) places in
    (one_number (n *ℤ pos (10 ^ q)) m n (10 ^ q) (one_positive q) level refl, places)
