-- Numbers: what is read is spelled so, and what is spelled so is read, with its value.
use Rattle.std.proofs.Common.{◌≡◌, ◌≢◌, ℕ, zero, suc, ◌+◌, ◌-◌, ◌*◌, ◌/◌, ◌%◌, ◌^◌, ◌≤◌, ◌<◌, ℤ, Bool, true, false, cond, eqb, ltb, ◌||◌, List, [], ◌∷◌, ◌++◌, length, Option, Some, None, Ok, Err, refl, sym, ap, subst, ◌∙◌, ◌⊎◌, inl, inr, append_assoc, length-append, arith}
use Rattle.std.specs.Prelude.{unsigned_abs, IfSome, IfNone}
use Rattle.std.proofs.lemmas.List.{append-nil, nil_from_length}
use Rattle.ratio_time.specs.declared.numeral.Numeral.{Numeral}
use Rattle.json_tokens.specs.Spelled.{numeral_kept}
use Rattle.std.specs.List.{AllByRecursion}
use Rattle.std.proofs.lemmas.Bool.{eqb-true, eqb-false, eq-eqb, ne_eqb, ltb-true, lt-ltb, leb-true, le-leb, or_cases, and_parts, and_from, cases_lt}
use Rattle.std.proofs.lemmas.Nat.{pow-add, div-add-mod'}
use Rattle.std.proofs.Math.Nat.{mul-mod_left, mul-div_cancel, mul_assoc, mul_comm, pow-suc}
use Rattle.ratio_time.specs.Numerals.{with_sign}
use Rattle.json_tokens.specs.Reading.{◌>>=◌}
use Rattle.json_tokens.specs.Decimal.{Digits, number_of, number_from, raised, lowered}
use Rattle.json_tokens.specs.ReadingNumerals.{Take, is_digit, digits_of, past_digits, digits_at, minus_at, whole_at, fraction_at, exponent_sign_at, power_at, exponent_at, spelling_at, is_whole, least_places, sized, fraction, numeral_of_fraction, numeral_of_digits, fraction_of, numeral_from, numeral_at, only}
use Rattle.json_tokens.specs.Grammar.{IsDigit, SomeDigits, IsMinus, IsWhole, IsFraction, IsSign, IsExponent, IsNumber, IsKept}
use Rattle.json_tokens.proofs.Tools.{Took, bind_ok, ok_is, some_is}
use Rattle.json_tokens.proofs.Digits.{digits_split}
use Rattle.json_tokens.proofs.Fractions.{ten_pos, mul_cancel, found_at}

-- ---- digits

test_digit : (b : ℕ) → is_digit b ≡ true → IsDigit b
test_digit b e = let p = and_parts _ _ e in (leb-true 48 b p.0, leb-true b 57 p.1)

digit_test : (b : ℕ) → IsDigit b → is_digit b ≡ true
digit_test b h = and_from _ _ (le-leb 48 b h.0) (le-leb b 57 h.1)

are_if : (t : Bool) (b : ℕ) (bs : List ℕ) → is_digit b ≡ t → AllByRecursion IsDigit (digits_of bs) → AllByRecursion IsDigit (cond t (b ∷ digits_of bs) [])
are_if true b bs e h = (test_digit b e, h)
are_if false b bs e h = tt

are : (bs : List ℕ) → AllByRecursion IsDigit (digits_of bs)
are [] = tt
are (b ∷ bs) = are_if (is_digit b) b bs refl (are bs)

digits_if : (t : Bool) (bytes : List ℕ) (x : List ℕ × List ℕ) → eqb (length (digits_of bytes)) 0 ≡ t → cond t (Err bytes) (Ok (digits_of bytes, past_digits bytes)) ≡ Ok x → (bytes ≡ x.0 ++ x.1) × SomeDigits x.0
digits_if true bytes x e h = absurd cc
digits_if false bytes x e h =
    subst (λ (y : List ℕ × List ℕ). (bytes ≡ y.0 ++ y.1) × SomeDigits y.0) (ok_is (digits_of bytes, past_digits bytes) x h)
    (sym (digits_split bytes), (some (length (digits_of bytes)) (eqb-false (length (digits_of bytes)) 0 e), are bytes))
  where
    some : (n : ℕ) → (n ≡ 0 → ⊥) → 0 < n
    some zero ne = absurd (ne refl)
    some (suc n) ne = omega arith

pub digits_took : (bytes : List ℕ) (x : List ℕ × List ℕ) → digits_at bytes ≡ Ok x → (bytes ≡ x.0 ++ x.1) × SomeDigits x.0
unfolding digits_at
digits_took bytes x e = digits_if (eqb (length (digits_of bytes)) 0) bytes x refl e

-- the bytes don't begin with a digit
abbrev pub NoDigit : List ℕ → Type 0
NoDigit [] = Unit {0}
NoDigit (b ∷ bs) = is_digit b ≡ false

pub no_digits : (rest : List ℕ) → NoDigit rest → (digits_of rest ≡ []) × (past_digits rest ≡ rest)
no_digits [] h = (refl, refl)
no_digits (b ∷ bs) h = (rw h refl, rw h refl)

run_again : (ds rest : List ℕ) → AllByRecursion IsDigit ds → NoDigit rest → (digits_of (ds ++ rest) ≡ ds) × (past_digits (ds ++ rest) ≡ rest)
run_again [] rest h stop = no_digits rest stop
run_again (d ∷ ds) rest h stop =
    let r = run_again ds rest h.1 stop in
    (rw (digit_test d h.0, r.0) refl, rw (digit_test d h.0) r.1)

pub digits_again : (ds rest : List ℕ) → SomeDigits ds → NoDigit rest → digits_at (ds ++ rest) ≡ Ok (ds, rest)
unfolding digits_at
digits_again ds rest h stop =
    let r = run_again ds rest h.1 stop in
    rw (r.0, r.1, ne_eqb (length ds) 0 (λ e. omega (arith, h.0))) refl

-- ---- the parts

abbrev minus_of : Bool → ℕ → List ℕ → Bool × List ℕ
minus_of t b bs = cond t (true, bs) (false, b ∷ bs)

minus_if : (t : Bool) (b : ℕ) (bs : List ℕ) → eqb b 45 ≡ t → (sign : List ℕ) × (b ∷ bs ≡ sign ++ (minus_of t b bs).1) × IsMinus sign (minus_of t b bs).0
minus_if true b bs e = (45 ∷ [], ap (λ (c : ℕ). c ∷ bs) (eqb-true b 45 e), inr (refl, refl))
minus_if false b bs e = ([], refl, inl (refl, refl))

pub minus_took : (bytes : List ℕ) → (sign : List ℕ) × (bytes ≡ sign ++ (minus_at bytes).1) × IsMinus sign (minus_at bytes).0
minus_took [] = ([], refl, inl (refl, refl))
minus_took (b ∷ bs) = minus_if (eqb b 45) b bs refl

whole_if : (t : Bool) (b : ℕ) (bs : List ℕ) (x : List ℕ × List ℕ) → eqb b 48 ≡ t → cond t (Ok (48 ∷ [], bs)) (digits_at (b ∷ bs)) ≡ Ok x → (b ∷ bs ≡ x.0 ++ x.1) × IsWhole x.0
whole_if true b bs x e h =
    subst (λ (y : List ℕ × List ℕ). (b ∷ bs ≡ y.0 ++ y.1) × IsWhole y.0) (ok_is (48 ∷ [], bs) x h) (ap (λ (c : ℕ). c ∷ bs) (eqb-true b 48 e), inl (refl, refl))
whole_if false b bs x e h =
    let d = digits_took (b ∷ bs) x h in
    (d.0, not_zero x.0 d.0 d.1)
  where
    not_zero : (ds : List ℕ) → b ∷ bs ≡ ds ++ x.1 → SomeDigits ds → IsWhole ds
    not_zero [] q s = absurd (omega (arith, s.0))
    not_zero (c ∷ cs) q s =
        let same : b ≡ c = cc in
        let ne = eqb-false b 48 e in
        inr (above c s.1.0.0 (λ g. ne (same ∙ g)), s.1.0.1, s.1.1)
      where
        above : (n : ℕ) → 48 ≤ n → (n ≡ 48 → ⊥) → 49 ≤ n
        above n le ng = elim (cases_lt 48 n) [ inl lt ↦ omega arith | inr ge ↦ absurd (ng (omega arith)) ]

pub whole_took : (bytes : List ℕ) (x : List ℕ × List ℕ) → whole_at bytes ≡ Ok x → (bytes ≡ x.0 ++ x.1) × IsWhole x.0
unfolding whole_at
whole_took [] x e = absurd cc
whole_took (b ∷ bs) x e = whole_if (eqb b 48) b bs x refl e

abbrev PartTook : {X : Type 0} → (List ℕ → X → Type 0) → List ℕ → X × List ℕ → Type 0
PartTook Is bytes x = (part : List ℕ) × (bytes ≡ part ++ x.1) × Is part x.0

fraction_if : (t : Bool) (b : ℕ) (bs : List ℕ) (x : List ℕ × List ℕ) → eqb b 46 ≡ t → cond t (digits_at bs) (Ok ([], b ∷ bs)) ≡ Ok x → PartTook IsFraction (b ∷ bs) x
fraction_if true b bs x e h =
    let d = digits_took bs x h in
    (46 ∷ x.0, ap (λ (c : ℕ). c ∷ bs) (eqb-true b 46 e) ∙ ap (λ (l : List ℕ). 46 ∷ l) d.0, inr (refl, d.1))
fraction_if false b bs x e h = subst (PartTook IsFraction (b ∷ bs)) (ok_is ([], b ∷ bs) x h) ([], refl, inl (refl, refl))

pub fraction_took : (bytes : List ℕ) (x : List ℕ × List ℕ) → fraction_at bytes ≡ Ok x → PartTook IsFraction bytes x
unfolding fraction_at
fraction_took [] x e = subst (PartTook IsFraction []) (ok_is ([], []) x e) ([], refl, inl (refl, refl))
fraction_took (b ∷ bs) x e = fraction_if (eqb b 46) b bs x refl e

abbrev sign_of : Bool → ℕ → List ℕ → Bool × List ℕ
sign_of t b bs = cond t (false, bs) (minus_at (b ∷ bs))

sign_if : (t : Bool) (b : ℕ) (bs : List ℕ) → eqb b 43 ≡ t → (sign : List ℕ) × (b ∷ bs ≡ sign ++ (sign_of t b bs).1) × IsSign sign (sign_of t b bs).0
sign_if true b bs e = (43 ∷ [], ap (λ (c : ℕ). c ∷ bs) (eqb-true b 43 e), inl (refl, refl))
sign_if false b bs e = let m = minus_took (b ∷ bs) in (m.0, m.1, inr m.2)

pub sign_took : (bytes : List ℕ) → (sign : List ℕ) × (bytes ≡ sign ++ (exponent_sign_at bytes).1) × IsSign sign (exponent_sign_at bytes).0
sign_took [] = ([], refl, inr (inl (refl, refl)))
sign_took (b ∷ bs) = sign_if (eqb b 43) b bs refl

abbrev Exponent : List ℕ → Bool × List ℕ → Type 0
Exponent part x = IsExponent part x.0 x.1

pair_of : Bool → List ℕ → List ℕ → (Bool × List ℕ) × List ℕ
pair_of s ds rest = ((s, ds), rest)

power_took : (mark : ℕ) (bytes : List ℕ) (x : (Bool × List ℕ) × List ℕ) → (mark ≡ 101) ⊎ (mark ≡ 69) → power_at bytes ≡ Ok x → PartTook Exponent (mark ∷ bytes) x
unfolding power_at pair_of
power_took mark bytes x m e =
    let s = sign_took bytes in
    let sign = exponent_sign_at bytes in
    let a = bind_ok (digits_at sign.1) (λ digits. Ok (pair_of sign.0 digits.0 digits.1)) x e in
    let d = digits_took sign.1 a.0 a.1 in
    subst (PartTook Exponent (mark ∷ bytes)) (ok_is (pair_of sign.0 a.0.0 a.0.1) x a.2)
    (mark ∷ (s.0 ++ a.0.0), ap (λ (l : List ℕ). mark ∷ l) (s.1 ∙ ap (λ (l : List ℕ). s.0 ++ l) d.0 ∙ sym (append_assoc s.0 a.0.0 a.0.1)), inr (mark, s.0, m, s.2, d.1, refl))

exponent_if : (t : Bool) (b : ℕ) (bs : List ℕ) (x : (Bool × List ℕ) × List ℕ) → (eqb b 101 || eqb b 69) ≡ t → cond t (power_at bs) (Ok ((false, []), b ∷ bs)) ≡ Ok x → PartTook Exponent (b ∷ bs) x
exponent_if true b bs x e h = power_took b bs x (elim (or_cases _ _ e) [ inl p ↦ inl (eqb-true b 101 p) | inr p ↦ inr (eqb-true b 69 p) ]) h
exponent_if false b bs x e h = subst (PartTook Exponent (b ∷ bs)) (ok_is ((false, []), b ∷ bs) x h) ([], refl, inl (refl, refl, refl))

exponent_took : (bytes : List ℕ) (x : (Bool × List ℕ) × List ℕ) → exponent_at bytes ≡ Ok x → PartTook Exponent bytes x
unfolding exponent_at
exponent_took [] x e = subst (PartTook Exponent []) (ok_is ((false, []), []) x e) ([], refl, inl (refl, refl, refl))
exponent_took (b ∷ bs) x e = exponent_if (eqb b 101 || eqb b 69) b bs x refl e

abbrev whole_digits : Bool → List ℕ → List ℕ → Bool × List ℕ → Digits
whole_digits n w f x = record { negative = n; whole = w; fraction = f; lowers = x.0; exponent = x.1 }

abbrev pub spelled : Bool → List ℕ → List ℕ → Bool × List ℕ → List ℕ → Digits × List ℕ
spelled n w f x rest = (whole_digits n w f x, rest)

pub spelling_took : (bytes : List ℕ) (x : Digits × List ℕ) → spelling_at bytes ≡ Ok x → PartTook IsNumber bytes x
unfolding spelling_at
spelling_took bytes x e =
    let m = minus_took bytes in
    let sign = minus_at bytes in
    let a = bind_ok (whole_at sign.1) (λ whole. fraction_at whole.1 >>= λ fraction. exponent_at fraction.1 >>= λ exponent. Ok (spelled sign.0 whole.0 fraction.0 exponent.0 exponent.1)) x e in
    let b = bind_ok (fraction_at a.0.1) (λ fraction. exponent_at fraction.1 >>= λ exponent. Ok (spelled sign.0 a.0.0 fraction.0 exponent.0 exponent.1)) x a.2 in
    let c = bind_ok (exponent_at b.0.1) (λ exponent. Ok (spelled sign.0 a.0.0 b.0.0 exponent.0 exponent.1)) x b.2 in
    let w = whole_took sign.1 a.0 a.1 in
    let f = fraction_took a.0.1 b.0 b.1 in
    let g = exponent_took b.0.1 c.0 c.1 in
    let behind : b.0.1 ≡ g.0 ++ c.0.1 = g.1 in
    let two : a.0.1 ≡ (f.0 ++ g.0) ++ c.0.1 = f.1 ∙ ap (λ (l : List ℕ). f.0 ++ l) behind ∙ sym (append_assoc f.0 g.0 c.0.1) in
    let three : sign.1 ≡ (a.0.0 ++ (f.0 ++ g.0)) ++ c.0.1 = w.0 ∙ ap (λ (l : List ℕ). a.0.0 ++ l) two ∙ sym (append_assoc a.0.0 (f.0 ++ g.0) c.0.1) in
    let all : bytes ≡ (m.0 ++ (a.0.0 ++ (f.0 ++ g.0))) ++ c.0.1 = m.1 ∙ ap (λ (l : List ℕ). m.0 ++ l) three ∙ sym (append_assoc m.0 (a.0.0 ++ (f.0 ++ g.0)) c.0.1) in
    subst (PartTook IsNumber bytes) (ok_is (spelled sign.0 a.0.0 b.0.0 c.0.0 c.0.1) x c.2)
    (m.0 ++ (a.0.0 ++ (f.0 ++ g.0)), all, record { sign = m.0; fraction_part = f.0; exponent_part = g.0; minus = m.2; whole = w.1; fraction = f.2; exponent = g.2; bytes_are = refl })

-- ---- and again

-- the bytes can't go on a number
abbrev pub Ends : List ℕ → Type 0
Ends [] = Unit {0}
Ends (b ∷ bs) = (is_digit b ≡ false) × (b ≢ 46) × (b ≢ 101) × (b ≢ 69)

ends_digit : (rest : List ℕ) → Ends rest → NoDigit rest
ends_digit [] h = tt
ends_digit (b ∷ bs) h = h.0

minus_none : (b : ℕ) (bs : List ℕ) → b ≢ 45 → minus_at (b ∷ bs) ≡ (false, b ∷ bs)
minus_none b bs ne = rw (ne_eqb b 45 ne) refl

-- bytes that begin with a digit
abbrev DigitFirst : List ℕ → Type 0
DigitFirst [] = ⊥
DigitFirst (b ∷ bs) = IsDigit b

minus_again : (sign : List ℕ) (negative : Bool) (rest : List ℕ) → IsMinus sign negative → DigitFirst rest → minus_at (sign ++ rest) ≡ (negative, rest)
minus_again sign negative [] h d = absurd d
minus_again sign negative (b ∷ bs) (inl h) d = rw (h.0, h.1) (minus_none b bs (λ e. omega (arith, d.0)))
minus_again sign negative (b ∷ bs) (inr h) d = rw (h.0, h.1) refl

whole_first : (w rest : List ℕ) → IsWhole w → DigitFirst (w ++ rest)
whole_first [] rest h = absurd h
whole_first (d ∷ ds) rest (inl h) = (omega (arith, h.0), omega (arith, h.0))
whole_first (d ∷ ds) rest (inr h) = (omega (arith, h.0), h.1)

whole_again : (w rest : List ℕ) → IsWhole w → NoDigit rest → whole_at (w ++ rest) ≡ Ok (w, rest)
unfolding whole_at
whole_again [] rest h stop = absurd h
whole_again (d ∷ ds) rest (inl h) stop = rw (h.0, h.1) refl
whole_again (d ∷ ds) rest (inr h) stop =
    rw (ne_eqb d 48 (λ e. omega (arith, h.0))) (digits_again (d ∷ ds) rest (omega arith, ((omega (arith, h.0), h.1), h.2)) stop)

-- bytes that don't begin with a point
abbrev NoPoint : List ℕ → Type 0
NoPoint [] = Unit {0}
NoPoint (b ∷ bs) = b ≢ 46

fraction_none : (rest : List ℕ) → NoPoint rest → fraction_at rest ≡ Ok ([], rest)
unfolding fraction_at
fraction_none [] h = refl
fraction_none (b ∷ bs) h = rw (ne_eqb b 46 h) refl

fraction_some : (digits rest : List ℕ) → SomeDigits digits → NoDigit rest → fraction_at (46 ∷ (digits ++ rest)) ≡ Ok (digits, rest)
unfolding fraction_at
fraction_some digits rest h stop = digits_again digits rest h stop

fraction_again : (part digits rest : List ℕ) → IsFraction part digits → NoDigit rest → NoPoint rest → fraction_at (part ++ rest) ≡ Ok (digits, rest)
fraction_again part digits rest (inl h) stop point = rw (h.0, h.1) (fraction_none rest point)
fraction_again part digits rest (inr h) stop point = rw h.0 (fraction_some digits rest h.1 stop)

exponent_none : (rest : List ℕ) → Ends rest → exponent_at rest ≡ Ok ((false, []), rest)
unfolding exponent_at
exponent_none [] h = refl
exponent_none (b ∷ bs) h = rw (ne_eqb b 101 h.2, ne_eqb b 69 h.3) refl

some_first : (ds rest : List ℕ) → SomeDigits ds → DigitFirst (ds ++ rest)
some_first [] rest h = absurd (omega (arith, h.0))
some_first (d ∷ ds) rest h = h.1.0

sign_none : (b : ℕ) (bs : List ℕ) → b ≢ 43 → exponent_sign_at (b ∷ bs) ≡ minus_at (b ∷ bs)
sign_none b bs ne = rw (ne_eqb b 43 ne) refl

sign_again : (sign : List ℕ) (lowers : Bool) (rest : List ℕ) → IsSign sign lowers → DigitFirst rest → exponent_sign_at (sign ++ rest) ≡ (lowers, rest)
sign_again sign lowers [] h d = absurd d
sign_again sign lowers (b ∷ bs) (inl h) d = rw (h.0, h.1) refl
sign_again sign lowers (b ∷ bs) (inr (inl h)) d = rw (h.0, h.1) (sign_none b bs (λ e. omega (arith, d.0)) ∙ minus_none b bs (λ e. omega (arith, d.0)))
sign_again sign lowers (b ∷ bs) (inr (inr h)) d = rw (h.0, h.1) refl

power_again : (sign digits rest : List ℕ) (lowers : Bool) → IsSign sign lowers → SomeDigits digits → NoDigit rest → power_at (sign ++ (digits ++ rest)) ≡ Ok ((lowers, digits), rest)
unfolding power_at
power_again sign digits rest lowers s d stop = rw (sign_again sign lowers (digits ++ rest) s (some_first digits rest d), digits_again digits rest d stop) refl

mark_again : (mark : ℕ) (rest : List ℕ) → (mark ≡ 101) ⊎ (mark ≡ 69) → exponent_at (mark ∷ rest) ≡ power_at rest
unfolding exponent_at
mark_again mark rest (inl e) = rw e refl
mark_again mark rest (inr e) = rw e refl

exponent_again : (part : List ℕ) (lowers : Bool) (digits rest : List ℕ) → IsExponent part lowers digits → Ends rest → exponent_at (part ++ rest) ≡ Ok ((lowers, digits), rest)
exponent_again part lowers digits rest (inl h) stop = rw (h.0, h.1, h.2) (exponent_none rest stop)
exponent_again part lowers digits rest (inr h) stop =
    let bytes : part ++ rest ≡ h.0 ∷ (h.1 ++ (digits ++ rest)) = ap (λ (l : List ℕ). l ++ rest) h.5 ∙ ap (λ (l : List ℕ). h.0 ∷ l) (append_assoc h.1 digits rest) in
    ap exponent_at bytes ∙ mark_again h.0 (h.1 ++ (digits ++ rest)) h.2 ∙ power_again h.1 digits rest lowers h.3 h.4 (ends_digit rest stop)

-- what stands behind the digits before the point, and behind those of the fraction
exponent_stops : (part : List ℕ) (lowers : Bool) (digits rest : List ℕ) → IsExponent part lowers digits → Ends rest → NoDigit (part ++ rest) × NoPoint (part ++ rest)
exponent_stops part lowers digits rest (inl h) stop = rw h.0 (ends_digit rest stop, ends_point rest stop)
  where
    ends_point : (l : List ℕ) → Ends l → NoPoint l
    ends_point [] e = tt
    ends_point (b ∷ bs) e = e.1
exponent_stops part lowers digits rest (inr h) stop = rw h.5 (mark_stops h.2)
  where
    mark_stops : (h.0 ≡ 101) ⊎ (h.0 ≡ 69) → (is_digit h.0 ≡ false) × (h.0 ≢ 46)
    mark_stops (inl e) = (ap is_digit e, λ f. omega arith)
    mark_stops (inr e) = (ap is_digit e, λ f. omega arith)

fraction_stops : (part digits rest : List ℕ) → IsFraction part digits → NoDigit rest → NoDigit (part ++ rest)
fraction_stops part digits rest (inl h) stop = rw h.0 stop
fraction_stops part digits rest (inr h) stop = rw h.0 refl

pub spelling_again : (bytes : List ℕ) (d : Digits) (rest : List ℕ) → IsNumber bytes d → Ends rest → spelling_at (bytes ++ rest) ≡ Ok (d, rest)
unfolding spelling_at
spelling_again bytes d rest n stop =
    let f = n.fraction_part in
    let g = n.exponent_part in
    let all : bytes ++ rest ≡ n.sign ++ (d.whole ++ (f ++ (g ++ rest))) =
    ap (λ (l : List ℕ). l ++ rest) n.bytes_are ∙ append_assoc n.sign (d.whole ++ (f ++ g)) rest
    ∙ ap (λ (l : List ℕ). n.sign ++ l) (append_assoc d.whole (f ++ g) rest ∙ ap (λ (l : List ℕ). d.whole ++ l) (append_assoc f g rest)) in
    let s = exponent_stops g d.lowers d.exponent rest n.exponent stop in
    let t = fraction_stops f d.fraction (g ++ rest) n.fraction s.0 in
    ap spelling_at all
    ∙ rw (minus_again n.sign d.negative (d.whole ++ (f ++ (g ++ rest))) n.minus (whole_first d.whole (f ++ (g ++ rest)) n.whole), whole_again d.whole (f ++ (g ++ rest)) n.whole t, fraction_again f d.fraction (g ++ rest) n.fraction s.0 s.1, exponent_again g d.lowers d.exponent rest n.exponent stop) refl

-- the first byte of a number
abbrev First : List ℕ → Type 0
First bytes = (b : ℕ) × (bs : List ℕ) × (bytes ≡ b ∷ bs) × ((b ≡ 45) ⊎ IsDigit b)

first_of : (sign body : List ℕ) (negative : Bool) → IsMinus sign negative → DigitFirst body → First (sign ++ body)
first_of sign [] negative m d = absurd d
first_of sign (b ∷ bs) negative (inl m) d = (b, bs, ap (λ (l : List ℕ). l ++ b ∷ bs) m.0, inr d)
first_of sign (b ∷ bs) negative (inr m) d = (45, b ∷ bs, ap (λ (l : List ℕ). l ++ b ∷ bs) m.0, inl refl)

pub number_first : (bytes : List ℕ) (d : Digits) → IsNumber bytes d → First bytes
number_first bytes d n =
    let f = first_of n.sign (d.whole ++ (n.fraction_part ++ n.exponent_part)) d.negative n.minus (whole_first d.whole (n.fraction_part ++ n.exponent_part) n.whole) in
    (f.0, f.1, n.bytes_are ∙ f.2, f.3)

-- ---- the value

size_of_sign : (negative : Bool) (size : ℕ) → unsigned_abs (with_sign negative size) ≡ size
size_of_sign false size = refl
size_of_sign true zero = refl
size_of_sign true (suc size) = refl

-- the least number of places is whole, and fewer are not
module _ (n up down : ℕ) where
  abbrev IsLeast : ℕ → ℕ → ℕ → Type 0
  IsLeast more p q = (is_whole n up down q ≡ true) × (p ≤ q) × (q < p + more) × ((r : ℕ) → p ≤ r → r < q → is_whole n up down r ≡ false)

  least_if : (t : Bool) (more p q : ℕ) → is_whole n up down p ≡ t → cond t (Some p) (least_places n up down more (p + 1)) ≡ Some q
      → (least_places n up down more (p + 1) ≡ Some q → IsLeast more (p + 1) q) → IsLeast (suc more) p q
  least_if true more p q e h rec =
      let same : p ≡ q = some_is p q h in
      (ap (is_whole n up down) (sym same) ∙ e, omega arith, omega arith, λ r le lt. absurd (omega arith))
  least_if false more p q e h rec =
      let k = rec h in
      (k.0, omega (arith, k.1), omega (arith, k.2), λ r le lt. elim (cases_lt p r) [ inl less ↦ k.3 r (omega arith) lt | inr same ↦ ap (is_whole n up down) (equal r p le same) ∙ e ])
    where
      equal : (a b : ℕ) → b ≤ a → a ≤ b → a ≡ b
      equal a b x y = omega arith

  least_is : (more p q : ℕ) → least_places n up down more p ≡ Some q → IsLeast more p q
  unfolding least_places
  least_is zero p q e = absurd cc
  least_is (suc more) p q e = least_if (is_whole n up down p) more p q refl e (least_is more (p + 1) q)

-- size/10^p is n * 10^up / 10^down, with the least places
pub record IsFractionOf (n up down size p : ℕ) : Type 0 where
  pub same : n * 10 ^ (up + p) ≡ size * 10 ^ down
  pub small : size < 10 ^ 18
  pub few : p ≤ 18
  pub least : 0 < p → size % 10 ≢ 0

quotient_back : (a d : ℕ) → a % d ≡ 0 → a / d * d ≡ a
quotient_back a d e = omega (arith, div-add-mod' a d)

-- one place fewer is whole too, if the last digit is 0
fewer : (n up down p size : ℕ) → 0 < p → n * 10 ^ (up + p) ≡ size * 10 ^ down → size % 10 ≡ 0 → is_whole n up down (p - 1) ≡ true
fewer n up down p size positive same last =
    let tenth = size / 10 in
    let ten : tenth * 10 ≡ size = quotient_back size 10 last in
    let e : up + p ≡ suc (up + (p - 1)) = omega arith in
    let left : n * 10 ^ (up + (p - 1)) * 10 ≡ n * 10 ^ (up + p) = mul_assoc n (10 ^ (up + (p - 1))) 10 ∙ ap (λ x. n * x) (sym (pow-suc 10 (up + (p - 1)))) ∙ ap (λ x. n * 10 ^ x) (sym e) in
    let right : tenth * 10 ^ down * 10 ≡ size * 10 ^ down = times_ten tenth (10 ^ down) ∙ ap (λ x. x * 10 ^ down) ten in
    let one : n * 10 ^ (up + (p - 1)) ≡ tenth * 10 ^ down = mul_cancel (n * 10 ^ (up + (p - 1))) (tenth * 10 ^ down) 10 (omega arith) (left ∙ same ∙ sym right) in
    eq-eqb _ _ (ap (λ x. x % 10 ^ down) one ∙ mul-mod_left tenth (10 ^ down))
  where
    times_ten : (a b : ℕ) → a * b * 10 ≡ a * 10 * b
    times_ten a b = mul_assoc a b 10 ∙ ap (λ x. a * x) (omega arith) ∙ sym (mul_assoc a 10 b)

sized_is : (n up down : ℕ) (o : Option ℕ) (x : ℕ × ℕ) → sized n up down o ≡ Some x → (o ≡ Some x.1) × (x.0 ≡ n * 10 ^ (up + x.1) / 10 ^ down) × (x.0 < 10 ^ 18)
sized_is n up down None x e = absurd cc
sized_is n up down (Some p) x e = sized_if (ltb (n * 10 ^ (up + p) / 10 ^ down) (10 ^ 18)) refl e
  where
    sized_if : (t : Bool) → ltb (n * 10 ^ (up + p) / 10 ^ down) (10 ^ 18) ≡ t → cond t (Some (n * 10 ^ (up + p) / 10 ^ down, p)) None ≡ Some x → (Some p ≡ Some x.1) × (x.0 ≡ n * 10 ^ (up + x.1) / 10 ^ down) × (x.0 < 10 ^ 18)
    sized_if true q h = subst (λ (y : ℕ × ℕ). (Some p ≡ Some y.1) × (y.0 ≡ n * 10 ^ (up + y.1) / 10 ^ down) × (y.0 < 10 ^ 18)) (some_is (n * 10 ^ (up + p) / 10 ^ down, p) x h) (refl, refl, ltb-true _ _ q)
    sized_if false q h = absurd cc

pub fraction_is : (n up down : ℕ) (x : ℕ × ℕ) → fraction n up down ≡ Some x → IsFractionOf n up down x.0 x.1
unfolding fraction
fraction_is n up down x e =
    let s = sized_is n up down (least_places n up down 19 0) x e in
    let l = least_is n up down 19 0 x.1 s.0 in
    let whole : n * 10 ^ (up + x.1) ≡ x.0 * 10 ^ down = sym (ap (λ v. v * 10 ^ down) s.1 ∙ quotient_back (n * 10 ^ (up + x.1)) (10 ^ down) (eqb-true _ _ l.0)) in
    record {
      same = whole;
      small = s.2;
      few = omega (arith, l.2);
      least = λ positive last. absurd (clash (fewer n up down x.1 x.0 positive whole last) (l.3 (x.1 - 1) (omega arith) (omega arith)));
    }
  where
    clash : {t : Bool} → t ≡ true → t ≡ false → ⊥
    clash p q = cc

-- fewer places are not whole
not_before : (n up down p size q : ℕ) → n * 10 ^ (up + p) ≡ size * 10 ^ down → (0 < p → size % 10 ≢ 0) → q < p → is_whole n up down q ≡ false
not_before n up down p size q same least lt =
    ne_eqb _ _ (λ e.
    let t = n * 10 ^ (up + q) / 10 ^ down in
    let back : t * 10 ^ down ≡ n * 10 ^ (up + q) = quotient_back (n * 10 ^ (up + q)) (10 ^ down) e in
    let r = p - q - 1 in
    let parts : up + p ≡ (up + q) + suc r = omega arith in
    let left : n * 10 ^ (up + p) ≡ n * 10 ^ (up + q) * 10 ^ suc r = ap (λ x. n * 10 ^ x) parts ∙ ap (λ x. n * x) (pow-add 10 (up + q) (suc r)) ∙ sym (mul_assoc n (10 ^ (up + q)) (10 ^ suc r)) in
    let right : n * 10 ^ (up + q) * 10 ^ suc r ≡ t * 10 ^ suc r * 10 ^ down = ap (λ x. x * 10 ^ suc r) (sym back) ∙ swapped t (10 ^ down) (10 ^ suc r) in
    let one : size ≡ t * 10 ^ suc r = mul_cancel size (t * 10 ^ suc r) (10 ^ down) (ten_pos down) (sym same ∙ left ∙ right) in
    let ten : size ≡ t * 10 ^ r * 10 = one ∙ ap (λ x. t * x) (pow-suc 10 r) ∙ sym (mul_assoc t (10 ^ r) 10) in
    least (omega arith) (ap (λ x. x % 10) ten ∙ mul-mod_left (t * 10 ^ r) 10))
  where
    swapped : (a b c : ℕ) → a * b * c ≡ a * c * b
    swapped a b c = mul_assoc a b c ∙ ap (λ x. a * x) (mul_comm b c) ∙ sym (mul_assoc a c b)

pub fraction_found : (n up down size p : ℕ) → IsFractionOf n up down size p → fraction n up down ≡ Some (size, p)
unfolding fraction
fraction_found n up down size p h =
    let whole : is_whole n up down p ≡ true = eq-eqb _ _ (ap (λ x. x % 10 ^ down) h.same ∙ mul-mod_left size (10 ^ down)) in
    let found = found_at n up down 19 0 p (omega arith) (omega (arith, h.few)) (λ q lt. not_before n up down p size q h.same h.least lt) whole in
    let value : n * 10 ^ (up + p) / 10 ^ down ≡ size = ap (λ x. x / 10 ^ down) h.same ∙ mul-div_cancel size (ten_pos down) in
    rw (found, value, lt-ltb size (10 ^ 18) h.small) refl

abbrev whole_number : Digits → ℕ
whole_number d = number_from (number_of d.whole) d.fraction

kept_is : (d : Digits) (size p : ℕ) → IsFractionOf (whole_number d) (raised d) (length d.fraction + lowered d) size p → IsKept d (with_sign d.negative size) p
kept_is d size p h = record { size = size; signed = refl; same = h.same; small = h.small; few = h.few; least = λ positive last. h.least positive (sym (ap (λ x. x % 10) (size_of_sign d.negative size)) ∙ last) }

kept_fraction : (d : Digits) (m : ℤ) (p : ℕ) (k : IsKept d m p) → fraction_of d ≡ Some (k.size, p)
kept_fraction d m p k =
    fraction_found (whole_number d) (raised d) (length d.fraction + lowered d) k.size p
    (record { same = k.same; small = k.small; few = k.few; least = λ positive last. k.least positive (ap (λ x. unsigned_abs x % 10) k.signed ∙ ap (λ x. x % 10) (size_of_sign d.negative k.size) ∙ last) })

-- what a number is: kept, or wide
abbrev pub IsNumeral : Digits → Option (ℤ × ℕ) → Type 0
IsNumeral d (Some n) = IsKept d n.0 n.1
IsNumeral d None = (m : ℤ) (p : ℕ) → IsKept d m p → ⊥

pub numeral_is : (d : Digits) → IsNumeral d (numeral_of_digits d)
numeral_is d = by_fraction (fraction_of d) refl
  where
    by_fraction : (o : Option (ℕ × ℕ)) → fraction_of d ≡ o → IsNumeral d (numeral_of_fraction d.negative o)
    by_fraction (Some x) e = kept_is d x.0 x.1 (fraction_is (whole_number d) (raised d) (length d.fraction + lowered d) x e)
    by_fraction None e = λ m p k. clash (sym (kept_fraction d m p k) ∙ e)
      where
        clash : {x : ℕ × ℕ} → ◌≡◌ {A = Option (ℕ × ℕ)} (Some x) None → ⊥
        clash q = cc

pub kept_numeral : (d : Digits) (m : ℤ) (p : ℕ) → IsKept d m p → numeral_of_digits d ≡ Some (m, p)
kept_numeral d m p k = ap (numeral_of_fraction d.negative) (kept_fraction d m p k) ∙ ap (λ z. Some (z, p)) (sym k.signed)

pub wide_numeral : (d : Digits) → ((m : ℤ) (p : ℕ) → IsKept d m p → ⊥) → numeral_of_digits d ≡ None
wide_numeral d never = by_fraction (fraction_of d) refl
  where
    by_fraction : (o : Option (ℕ × ℕ)) → fraction_of d ≡ o → numeral_of_fraction d.negative o ≡ None
    by_fraction (Some x) e = absurd (never _ _ (kept_is d x.0 x.1 (fraction_is (whole_number d) (raised d) (length d.fraction + lowered d) x e)))
    by_fraction None e = refl

-- ---- a number at the front

-- the bytes are a number, and what it is; it is so at any place
abbrev pub IsNumeralAt : ℕ → List ℕ → Option (ℤ × ℕ) → Type 0
IsNumeralAt at bytes o = (d : Digits) × IsNumber bytes d × IsNumeral d o

numeral_of : (at : ℕ) (bytes : List ℕ) (r : Take Digits) (x : Option (ℤ × ℕ) × ℕ × List ℕ) → spelling_at bytes ≡ r → numeral_from at bytes r ≡ Ok x → Took IsNumeralAt at bytes x.0 x.1 x.2
numeral_of at bytes (Err rest) x is e = absurd cc
numeral_of at bytes (Ok y) x is e =
    let p = spelling_took bytes y is in
    let len : length bytes ≡ length p.0 + length y.1 = ap length p.1 ∙ length-append p.0 y.1 in
    subst (λ (z : Option (ℤ × ℕ) × ℕ × List ℕ). Took IsNumeralAt at bytes z.0 z.1 z.2) (ok_is (numeral_of_digits y.0, at + (length bytes - length y.1), y.1) x e)
    (record { front = p.0; parts = p.1; place = omega arith; is = (y.0, p.2, numeral_is y.0) })

pub numeral_took : (at : ℕ) (bytes : List ℕ) (x : Option (ℤ × ℕ) × ℕ × List ℕ) → numeral_at at bytes ≡ Ok x → Took IsNumeralAt at bytes x.0 x.1 x.2
unfolding numeral_at
numeral_took at bytes x e = numeral_of at bytes (spelling_at bytes) x refl e

found_at_end : Option (ℤ × ℕ) → ℕ → List ℕ → Option (ℤ × ℕ) × ℕ × List ℕ
found_at_end o n rest = (o, n, rest)

pub numeral_again : (bytes : List ℕ) (d : Digits) (o : Option (ℤ × ℕ)) (at : ℕ) (rest : List ℕ) → IsNumber bytes d → numeral_of_digits d ≡ o → Ends rest → numeral_at at (bytes ++ rest) ≡ Ok (o, at + length bytes, rest)
unfolding numeral_at found_at_end
numeral_again bytes d o at rest n e stop =
    rw (spelling_again bytes d rest n stop, e) (ap (λ (m : ℕ). Ok (found_at_end o m rest)) (omega (arith, length-append bytes rest)))

-- ---- a whole text

only_if : (t : Bool) (x : Digits × List ℕ) (m : ℤ) (p : ℕ) → eqb (length x.1) 0 ≡ t → cond t (numeral_of_digits x.0) None ≡ Some (m, p) → (x.1 ≡ []) × (numeral_of_digits x.0 ≡ Some (m, p))
only_if true x m p e h = (nil_from_length x.1 (eqb-true (length x.1) 0 e), h)
only_if false x m p e h = absurd cc

only_of : (text : List ℕ) (r : Take Digits) (m : ℤ) (p : ℕ) → spelling_at text ≡ r → only r ≡ Some (m, p) → (d : Digits) × IsNumber text d × IsKept d m p
only_of text (Err rest) m p is e = absurd cc
only_of text (Ok x) m p is e =
    let o = only_if (eqb (length x.1) 0) x m p refl e in
    let t = spelling_took text x is in
    let whole : text ≡ t.0 = t.1 ∙ ap (λ (l : List ℕ). t.0 ++ l) o.0 ∙ append-nil t.0 in
    (x.0, rw whole t.2, subst (IsNumeral x.0) o.1 (numeral_is x.0))

pub whole_kept : (text : List ℕ) (m : ℤ) (p : ℕ) → only (spelling_at text) ≡ Some (m, p) → (d : Digits) × IsNumber text d × IsKept d m p
whole_kept text m p e = only_of text (spelling_at text) m p refl e

pub whole_wide : (text : List ℕ) → only (spelling_at text) ≡ None → (d : Digits) (m : ℤ) (p : ℕ) → IsNumber text d → IsKept d m p → ⊥
whole_wide text e d m p n k =
    let read : spelling_at text ≡ Ok (d, []) = ap spelling_at (sym (append-nil text)) ∙ spelling_again text d [] n tt in
    let is : only (spelling_at text) ≡ Some (m, p) = ap only read ∙ kept_numeral d m p k in
    clash (sym is ∙ e)
  where
    clash : ◌≡◌ {A = Option (ℤ × ℕ)} (Some (m, p)) None → ⊥
    clash q = cc

pub some_kept : (text : List ℕ) (o : Option Numeral) → numeral_kept o ≡ only (spelling_at text) → IfSome o (λ n. (d : Digits) × IsNumber text d × IsKept d n.mantissa n.places)
some_kept text None e = tt
some_kept text (Some n) e = whole_kept text n.mantissa n.places (sym e)

pub none_kept : (text : List ℕ) (o : Option Numeral) → numeral_kept o ≡ only (spelling_at text) → IfNone o ((d : Digits) (m : ℤ) (p : ℕ) → IsNumber text d → IsKept d m p → ⊥)
none_kept text None e = whole_wide text (sym e)
none_kept text (Some n) e = tt
