-- No number stands for two usual rates.
use Rattle.std.proofs.Common.{◌≡◌, ℕ, ◌+◌, ◌*◌, ◌^◌, ◌<◌, ◌≤◌, ℤ, pos, negsuc, ◌*ℤ◌, ◌-ℤ◌, unsigned_abs, Bool, true, false, nat_lt, ◌==◌, ◌&&◌, ◌||◌, List, length, slice_index_or, refl, arith, subst, sym, suc-mul, le_of_mul-le-mul_right, mul-le-mul_right, ap, ◌∙◌, cond, zero, suc, Option, Some, None, [], ◌∷◌}
use Rattle.std.specs.List.{Contains, list_all, find}
use Rattle.std.specs.Option.{option_or}
use Rattle.std.proofs.lemmas.Int.{ints}
use Rattle.std.proofs.lemmas.List.Folds.{list_all_at}
use Rattle.std.proofs.lemmas.Bool.Decides.{nat_tests}
use Rattle.ratio_time.specs.Rates.{usual_rates, StandsFor, stands_for, itself, rate_value}
use Rattle.ratio_time.specs.declared.numeral.Numeral.{Numeral}
use Rattle.ratio_time.proofs.Products.{one_positive}

crossed : (n t a b c d : ℕ) → 1 ≤ t → 200 * (a * t) ≤ 200 * (n * b) + b * t → 200 * (n * d) ≤ 200 * (c * t) + d * t → 100 * (a * d) ≤ 100 * (c * b) + b * d
crossed n t a b c d some one other =
    let first = mul-le-mul_right d one in
    let second = mul-le-mul_right b other in
    let whole : (100 * (a * d)) * t ≤ (100 * (c * b) + b * d) * t = omega arith in
    le_of_mul-le-mul_right whole some

-- a number within 1/200 of a rate, as whole numbers of parts of which t make one
record Between (m : ℤ) (t a b : ℕ) : Type 0 where
  size : ℕ
  is : m ≡ pos size
  above : 200 * (a * t) ≤ 200 * (size * b) + b * t
  below : 200 * (size * b) ≤ 200 * (a * t) + b * t

between : (m : ℤ) (t a b : ℕ) → 1 ≤ t → b < 200 * a → 200 * unsigned_abs (m *ℤ pos b -ℤ pos (a * t)) ≤ b * t → Between m t a b
between (pos n) t a b some positive near = record { size = n; is = refl; above = omega (arith, ints); below = omega (arith, ints) }
between (negsuc n) t a b some positive near =
    let product = mul-le-mul_right t positive in
    absurd (omega (arith, ints, suc-mul n b))

same_size : (m : ℤ) (i j : ℕ) → m ≡ pos i → m ≡ pos j → i ≡ j
same_size m i j p q = cc

-- two rates that one number stands for are at most 1/100 apart
close : (m : ℤ) (t a b c d : ℕ) → 1 ≤ t → Between m t a b → Between m t c d → 100 * (a * d) ≤ 100 * (c * b) + b * d
close m t a b c d some one other =
    let same : other.size ≡ one.size = same_size m other.size one.size other.is one.is in
    let below : 200 * (one.size * d) ≤ 200 * (c * t) + d * t = subst (λ n. 200 * (n * d) ≤ 200 * (c * t) + d * t) same other.below in
    crossed one.size t a b c d some one.above below

-- one rate is more than 1/100 above another; two are the same or so far apart
far_above : ℕ × ℕ → ℕ × ℕ → Bool
far_above r s = nat_lt (100 * (s.0 * r.1) + r.1 * s.1) (100 * (r.0 * s.1))

same_or_apart : ℕ × ℕ → ℕ × ℕ → Bool
same_or_apart r s = ((r.0 == s.0) && (r.1 == s.1)) || (far_above r s || far_above s r)

not_tiny : ℕ × ℕ → Bool
not_tiny r = nat_lt r.1 (200 * r.0)

one_rate : (n : Numeral) (r s : ℕ × ℕ) → not_tiny r ≡ true → not_tiny s ≡ true → same_or_apart r s ≡ true → StandsFor n r → StandsFor n s → (r.0 ≡ s.0) × (r.1 ≡ s.1)
unfolding far_above same_or_apart not_tiny
one_rate n r s tr ts apart one other =
    let some = one_positive n.places in
    let pr : r.1 < 200 * r.0 = grind (arith, nat_tests) in
    let ps : s.1 < 200 * s.0 = grind (arith, nat_tests) in
    let br = between n.mantissa (10 ^ n.places) r.0 r.1 some pr one in
    let bs = between n.mantissa (10 ^ n.places) s.0 s.1 some ps other in
    told r.0 r.1 s.0 s.1 (close n.mantissa (10 ^ n.places) r.0 r.1 s.0 s.1 some br bs) (close n.mantissa (10 ^ n.places) s.0 s.1 r.0 r.1 some bs br) apart
  where
    told : (a b c d : ℕ) → 100 * (a * d) ≤ 100 * (c * b) + b * d → 100 * (c * b) ≤ 100 * (a * d) + d * b
        → (((a == c) && (b == d)) || (nat_lt (100 * (c * b) + b * d) (100 * (a * d)) || nat_lt (100 * (a * d) + d * b) (100 * (c * b)))) ≡ true → (a ≡ c) × (b ≡ d)
    told a b c d up down apart = grind (arith, nat_tests)

true_at : (b : Bool) → (b ≡ false → ⊥) → b ≡ true
true_at true h = refl
true_at false h = absurd (h refl)

pick : (f : ℕ × ℕ → Bool) (rates : List (ℕ × ℕ)) (k : ℕ) (d : ℕ × ℕ) → k < length rates → list_all f rates ≡ true → f (slice_index_or rates k d) ≡ true
pick f rates k d lt all = true_at (f (slice_index_or rates k d)) (λ no. let none = list_all_at f rates k d lt no in cc)

one_of : (n : Numeral) (rates : List (ℕ × ℕ)) (j k : ℕ) (e d : ℕ × ℕ) → list_all not_tiny rates ≡ true → list_all (λ r. list_all (same_or_apart r) rates) rates ≡ true
    → j < length rates → k < length rates → StandsFor n (slice_index_or rates j e) → StandsFor n (slice_index_or rates k d)
    → ((slice_index_or rates j e).0 ≡ (slice_index_or rates k d).0) × ((slice_index_or rates j e).1 ≡ (slice_index_or rates k d).1)
one_of n rates j k e d sized apart jl kl one other =
    one_rate n (slice_index_or rates j e) (slice_index_or rates k d) (pick not_tiny rates j e jl sized) (pick not_tiny rates k d kl sized)
    (pick (same_or_apart (slice_index_or rates j e)) rates k d kl (pick (λ r. list_all (same_or_apart r) rates) rates j e jl apart)) one other

sizes : list_all not_tiny usual_rates ≡ true
unfolding not_tiny
sizes = refl

all_apart : list_all (λ r. list_all (same_or_apart r) usual_rates) usual_rates ≡ true
unfolding far_above same_or_apart
all_apart = refl

pub one_usual : (n : Numeral) (r : ℕ × ℕ) → Contains usual_rates r → StandsFor n r
    → (k : ℕ) (d : ℕ × ℕ) → k < length usual_rates → StandsFor n (slice_index_or usual_rates k d)
    → (r.0 ≡ (slice_index_or usual_rates k d).0) × (r.1 ≡ (slice_index_or usual_rates k d).1)
one_usual n r found one k d kl other =
    let near : StandsFor n (slice_index_or usual_rates found.0 r) = subst (StandsFor n) (sym found.2) one in
    subst (λ (x : ℕ × ℕ). (x.0 ≡ (slice_index_or usual_rates k d).0) × (x.1 ≡ (slice_index_or usual_rates k d).1)) found.2
    (one_of n usual_rates found.0 k r d sizes all_apart found.1 kl near other)

-- ---- the same as functions

found_first : {A : Type 0} (test : A → Bool) (xs : List A) (x : A) → find test xs ≡ Some x → Contains xs x × (test x ≡ true)
found_first test [] x e = cc
found_first {A} test (y ∷ ys) x e = by (test y) refl (found_first test ys x) e
  where
    by : (b : Bool) → test y ≡ b → (find test ys ≡ Some x → Contains ys x × (test x ≡ true)) → cond b (Some y) (find test ys) ≡ Some x → Contains (y ∷ ys) x × (test x ≡ true)
    by true t more e = let same : y ≡ x = cc in ((0, omega arith, same), ap test (sym same) ∙ t)
    by false t more e = let rest = more e in ((suc rest.0.0, omega (arith, rest.0.1), rest.0.2), rest.1)

found_none : {A : Type 0} (test : A → Bool) (xs : List A) → find test xs ≡ None → (k : ℕ) (d : A) → k < length xs → test (slice_index_or xs k d) ≡ false
found_none test [] e k d lt = absurd (omega arith)
found_none {A} test (y ∷ ys) e k d lt = by (test y) refl (λ none j. found_none test ys none j d) e k lt
  where
    by : (b : Bool) → test y ≡ b → (find test ys ≡ None → (j : ℕ) → j < length ys → test (slice_index_or ys j d) ≡ false)
        → cond b (Some y) (find test ys) ≡ None → (k : ℕ) → k < length (y ∷ ys) → test (slice_index_or (y ∷ ys) k d) ≡ false
    by true t more e k lt = cc
    by false t more e zero lt = t
    by false t more e (suc k) lt = more e k (omega arith)

is_near : (n : Numeral) (rate : ℕ × ℕ) → stands_for n rate ≡ true → StandsFor n rate
is_near n rate e = grind (arith, nat_tests)

not_near : (n : Numeral) (rate : ℕ × ℕ) → stands_for n rate ≡ false → StandsFor n rate → ⊥
not_near n rate e near = grind (arith, nat_tests)

usual_found : (n : Numeral) (r : ℕ × ℕ) → Contains usual_rates r → StandsFor n r → (o : Option (ℕ × ℕ)) → find (stands_for n) usual_rates ≡ o → o ≡ Some r
usual_found n r found near (Some x) e =
    let first = found_first (stands_for n) usual_rates x e in
    let same = one_usual n r found near first.0.0 x first.0.1 (subst (StandsFor n) (sym first.0.2) (is_near n x first.1)) in
    ap (λ (y : ℕ × ℕ). Some y) (sym (pair_is r x (same.0 ∙ ap (λ (y : ℕ × ℕ). y.0) first.0.2) (same.1 ∙ ap (λ (y : ℕ × ℕ). y.1) first.0.2)))
  where
    pair_is : (a b : ℕ × ℕ) → a.0 ≡ b.0 → a.1 ≡ b.1 → a ≡ b
    pair_is (a, b) (c, d) p q = cc
usual_found n r found near None e =
    let all = found_none (stands_for n) usual_rates e found.0 r found.1 in
    absurd (not_near n (slice_index_or usual_rates found.0 r) all (subst (StandsFor n) (sym found.2) near))

none_found : (n : Numeral) → ((k : ℕ) (d : ℕ × ℕ) → k < length usual_rates → StandsFor n (slice_index_or usual_rates k d) → ⊥) → (o : Option (ℕ × ℕ)) → find (stands_for n) usual_rates ≡ o → o ≡ None
none_found n none (Some x) e =
    let first = found_first (stands_for n) usual_rates x e in
    absurd (none first.0.0 x first.0.1 (subst (StandsFor n) (sym first.0.2) (is_near n x first.1)))
none_found n none None e = refl

pub usual_value : (n : Numeral) (r : ℕ × ℕ) → Contains usual_rates r → StandsFor n r → rate_value n ≡ Some r
unfolding rate_value
usual_value n r found near = ap (λ o. option_or o (itself n)) (usual_found n r found near (find (stands_for n) usual_rates) refl)

pub itself_value : (n : Numeral) → ((k : ℕ) (d : ℕ × ℕ) → k < length usual_rates → StandsFor n (slice_index_or usual_rates k d) → ⊥) → rate_value n ≡ itself n
unfolding rate_value
itself_value n none = ap (λ o. option_or o (itself n)) (none_found n none (find (stands_for n) usual_rates) refl)
