-- Marks in rows of Booleans, one for each home.
use Rattle.std.proofs.Common.{◌≡◌, ℕ, zero, suc, ◌<◌, Bool, true, false, ◌&&◌, ◌||◌, eqb, List, [], ◌∷◌, ◌++◌, Vec, length, get_or, replicate, slice_get, slice_set, refl, sym, ap, ◌∙◌, arith}
use Rattle.std.specs.Global.{Global}
use Rattle.std.proofs.lemmas.Bool.{eqb-true, ne_eqb}
use Rattle.composables.proofs.Joining.{eqb-refl}
use Rattle.link_groups.specs.Marks.{in_row, row_has}

true_false : true ≡ false → ⊥
true_false e = cc

eqb_suc : (n k : ℕ) → eqb (suc n) (suc k) ≡ eqb n k
eqb_suc n k = by (eqb n k) refl where
  by : (b : Bool) → eqb n k ≡ b → eqb (suc n) (suc k) ≡ b
  by true e = ap (λ (m : ℕ). eqb (suc m) (suc k)) (eqb-true n k e) ∙ eqb-refl (suc k)
  by false e = ne_eqb (suc n) (suc k) (λ s. let same : n ≡ k = omega (arith, s) in true_false (sym (eqb-refl k) ∙ (ap (λ (m : ℕ). eqb m k) (sym same) ∙ e)))

zero_suc : (k : ℕ) → eqb 0 (suc k) ≡ false
zero_suc k = ne_eqb 0 (suc k) (λ s. omega (arith, s))

suc_zero : (n : ℕ) → eqb (suc n) 0 ≡ false
suc_zero n = ne_eqb (suc n) 0 (λ s. omega (arith, s))

or_true : (b c : Bool) → c ≡ true → true ≡ (b || c)
or_true true c e = refl
or_true false c e = sym e

or_false : (b c : Bool) → c ≡ false → b ≡ (b || c)
or_false true c e = refl
or_false false c e = sym e

-- a mark is set at its number alone
pub row-set : (row : List Bool) (k n : ℕ) → k < length row → row_has (slice_set row k true) n ≡ (row_has row n || eqb n k)
row-set [] k n h = absurd (omega (arith, h))
row-set (b ∷ bs) zero zero h = or_true b (eqb 0 0) (eqb-refl 0)
row-set (b ∷ bs) zero (suc n) h = or_false (row_has bs n) (eqb (suc n) 0) (suc_zero n)
row-set (b ∷ bs) (suc k) zero h = or_false b (eqb 0 (suc k)) (zero_suc k)
row-set (b ∷ bs) (suc k) (suc n) h = row-set bs k n (omega (arith, h)) ∙ ap (λ (c : Bool). row_has bs n || c) (sym (eqb_suc n k))

none_set : (k n : ℕ) → row_has (replicate k false) n ≡ false
none_set zero n = refl
none_set (suc k) zero = refl
none_set (suc k) (suc n) = none_set k n

-- a longer row has no more marks
pub row-longer : (row : List Bool) (k n : ℕ) → row_has (row ++ replicate k false) n ≡ row_has row n
row-longer [] k n = none_set k n
row-longer (b ∷ bs) k zero = refl
row-longer (b ∷ bs) k (suc n) = row-longer bs k n

and_true : (a b : Bool) → a ≡ true → b ≡ (a && b)
and_true a b e = sym (ap (λ (c : Bool). c && b) e)

or_and_false : (a b c : Bool) → b ≡ false → a ≡ (a || (b && c))
or_and_false a b c e = or_false a (b && c) (ap (λ (d : Bool). d && c) e)

-- a number marked in the row of a home
pub rows-set : (rows : List (Vec Bool Global)) (row new : Vec Bool Global) (home number m n : ℕ) → home < length rows → row ≡ get_or rows home row
    → ((i : ℕ) → row_has new.items i ≡ (row_has row.items i || eqb i number))
    → in_row (slice_get (slice_set rows home new) m) n ≡ (in_row (slice_get rows m) n || (eqb m home && eqb n number))
rows-set [] row new home number m n h is has = absurd (omega (arith, h))
rows-set (r ∷ rs) row new zero number zero n h is has =
    has n ∙ (ap (λ (v : Vec Bool Global). row_has v.items n || eqb n number) is ∙ ap (λ (c : Bool). row_has r.items n || c) (and_true (eqb 0 0) (eqb n number) (eqb-refl 0)))
rows-set (r ∷ rs) row new zero number (suc m) n h is has = or_and_false (in_row (slice_get rs m) n) (eqb (suc m) 0) (eqb n number) (suc_zero m)
rows-set (r ∷ rs) row new (suc home) number zero n h is has = or_and_false (row_has r.items n) (eqb 0 (suc home)) (eqb n number) (zero_suc home)
rows-set (r ∷ rs) row new (suc home) number (suc m) n h is has =
    rows-set rs row new home number m n (omega (arith, h)) is has ∙ ap (λ (c : Bool). in_row (slice_get rs m) n || (c && eqb n number)) (sym (eqb_suc m home))

pub or-last : (a b c : Bool) → ((a || b) || c) ≡ ((a || c) || b)
or-last true b c = refl
or-last false true true = refl
or-last false true false = refl
or-last false false true = refl
or-last false false false = refl

-- rows without marks, and one more
pub rows-more : (rows : List (Vec Bool Global)) (row : Vec Bool Global) → row.items ≡ [] → ((i n : ℕ) → in_row (slice_get rows i) n ≡ false) → (i n : ℕ) → in_row (slice_get (rows ++ row ∷ []) i) n ≡ false
rows-more [] row e h zero n = ap (λ (bs : List Bool). row_has bs n) e
rows-more [] row e h (suc i) n = refl
rows-more (r ∷ rs) row e h zero n = h 0 n
rows-more (r ∷ rs) row e h (suc i) n = rows-more rs row e (λ j m. h (suc j) m) i n
