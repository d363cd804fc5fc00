-- Where a number stops, and that numbers which begin alike are read alike.
use Rattle.std.proofs.Common.{◌≡◌, ℕ, ℤ, ◌+◌, ◌-◌, Bool, true, false, cond, eqb, ◌||◌, List, [], ◌∷◌, ◌++◌, length, Option, Ok, Err, refl, sym, ap, subst, ◌∙◌, ◌⊎◌, inl, inr, append_assoc, length-append, arith}
use Rattle.std.proofs.lemmas.Bool.{eqb-true, or_cases}
use Rattle.std.proofs.lemmas.List.{append_cancel_right, nil_from_length}
use Rattle.json_tokens.specs.declared.fault.JsonFault.{JsonFault}
use Rattle.json_tokens.specs.declared.fault.JsonFault.TheVariants.{Syntax}
use Rattle.json_tokens.specs.Reading.{◌>>=◌}
use Rattle.json_tokens.specs.Decimal.{Digits}
use Rattle.json_tokens.specs.ReadingNumerals.{Take, is_digit, digits_of, past_digits, digits_at, minus_at, whole_at, fraction_at, exponent_sign_at, power_at, exponent_at, spelling_at, numeral_from, numeral_at, numeral_of_digits}
use Rattle.json_tokens.specs.Grammar.{IsMinus, IsWhole, IsFraction, IsSign}
use Rattle.json_tokens.proofs.Tools.{ok_is}
use Rattle.json_tokens.proofs.Digits.{digits_split}
use Rattle.json_tokens.proofs.NumeralLaws.{NoDigit, no_digits, digits_took, digits_again, minus_took, whole_took, fraction_took, sign_took, spelled}
use Rattle.json_tokens.proofs.FirstBytes.{SameFirst, same_behind, same_none, same_some}
use Rattle.json_tokens.proofs.Halts.{IsToldBy, halt_stuck, bind_err, err_is}
use Rattle.json_tokens.proofs.Stuck.{Stuck, Alike, BeginsNumber}

-- ---- readers that look at one byte of what they leave

abbrev left : {X : Type 0} → Take X → List ℕ
left (Ok x) = x.1
left (Err rest) = rest

abbrev leaving : {X : Type 0} → List ℕ → Take X → Take X
leaving rest (Ok x) = Ok (x.0, rest)
leaving rest (Err old) = Err rest

-- What was read, and that it is read so before all that begins with the same byte as what was left.
record Steady {X : Type 0} (read : List ℕ → Take X) (bytes : List ℕ) (t : Take X) : Type 0 where
  pub front : List ℕ
  pub parts : bytes ≡ front ++ left t
  pub same : (other : List ℕ) → SameFirst (left t) other → read (front ++ other) ≡ leaving other t

steady_end : {X : Type 0} (read : List ℕ → Take X) (t : Take X) → read [] ≡ leaving [] t → left t ≡ [] → Steady read [] t
steady_end read t e n = record {
  front = [];
  parts = sym n;
  same = λ other h. subst (λ (l : List ℕ). read l ≡ leaving l t) (sym (same_none other (subst (λ (l : List ℕ). SameFirst l other) n h))) e;
}

steady_here : {X : Type 0} (x : X) (bytes : List ℕ) → Steady (λ l. Ok (x, l)) bytes (Ok (x, bytes))
steady_here x bytes = record { front = []; parts = refl; same = λ other h. refl }

-- a byte was taken
steady_took : {X : Type 0} (read behind : List ℕ → Take X) (b : ℕ) (bs : List ℕ) (t : Take X) → ((l : List ℕ) → read (b ∷ l) ≡ behind l) → Steady behind bs t → Steady read (b ∷ bs) t
steady_took read behind b bs t e s = record {
  front = b ∷ s.front;
  parts = ap (λ (l : List ℕ). b ∷ l) s.parts;
  same = λ other h. e (s.front ++ other) ∙ s.same other h;
}

-- the first byte says which reader it is
steady_first : {X : Type 0} (read chosen : List ℕ → Take X) (b : ℕ) (bs : List ℕ) (t : Take X) → ((l : List ℕ) → read (b ∷ l) ≡ chosen (b ∷ l)) → Steady chosen (b ∷ bs) t → Steady read (b ∷ bs) t
steady_first read chosen b bs t e s = record {
  front = s.front;
  parts = s.parts;
  same = λ other h.
      let begins : SameFirst (b ∷ bs) (s.front ++ other) = subst (λ (l : List ℕ). SameFirst l (s.front ++ other)) (sym s.parts) (same_behind s.front (left t) other h) in
      let m = same_some b bs (s.front ++ other) begins in
      ap read m.1 ∙ e m.0 ∙ sym (ap chosen m.1) ∙ s.same other h;
}

steady_then : {X Y : Type 0} (read : List ℕ → Take X) (next : X → List ℕ → Take Y) → ((l : List ℕ) → Steady read l (read l)) → ((x : X) (l : List ℕ) → Steady (next x) l (next x l))
    → (bytes : List ℕ) → Steady (λ l. read l >>= λ x. next x.0 x.1) bytes (read bytes >>= λ x. next x.0 x.1)
steady_then {X} {Y} read next s n bytes = by_result (read bytes) (s bytes)
  where
    by_result : (t : Take X) → Steady read bytes t → Steady (λ l. read l >>= λ x. next x.0 x.1) bytes (t >>= λ x. next x.0 x.1)
    by_result (Err rest) a = record { front = a.front; parts = a.parts; same = λ other h. ap (λ t. t >>= λ x. next x.0 x.1) (a.same other h) }
    by_result (Ok x) a =
        let c = n x.0 x.1 in
        record {
          front = a.front ++ c.front;
          parts = a.parts ∙ ap (λ (l : List ℕ). a.front ++ l) c.parts ∙ sym (append_assoc a.front c.front (left (next x.0 x.1)));
          same = λ other h.
              let first : SameFirst x.1 (c.front ++ other) = subst (λ (l : List ℕ). SameFirst l (c.front ++ other)) (sym c.parts) (same_behind c.front (left (next x.0 x.1)) other h) in
              ap (λ (l : List ℕ). read l >>= λ x. next x.0 x.1) (append_assoc a.front c.front other) ∙ ap (λ t. t >>= λ x. next x.0 x.1) (a.same (c.front ++ other) first) ∙ c.same other h;
        }

-- ---- the parts of a number

past_if : (t : Bool) (b : ℕ) (bs : List ℕ) → is_digit b ≡ t → NoDigit (past_digits bs) → NoDigit (cond t (past_digits bs) (b ∷ bs))
past_if true b bs e h = h
past_if false b bs e h = e

past_no_digit : (bs : List ℕ) → NoDigit (past_digits bs)
past_no_digit [] = tt
past_no_digit (b ∷ bs) = past_if (is_digit b) b bs refl (past_no_digit bs)

same_no_digit : (l other : List ℕ) → SameFirst l other → NoDigit l → NoDigit other
same_no_digit [] [] s h = tt
same_no_digit [] (c ∷ cs) s h = absurd s
same_no_digit (b ∷ bs) [] s h = absurd s
same_no_digit (b ∷ bs) (c ∷ cs) s h = ap is_digit (sym s) ∙ h

digits_steady : (bytes : List ℕ) → Steady digits_at bytes (digits_at bytes)
unfolding digits_at
digits_steady bytes = by_length (eqb (length (digits_of bytes)) 0) refl
  where
    by_length : (t : Bool) → eqb (length (digits_of bytes)) 0 ≡ t → Steady digits_at bytes (cond t (Err bytes) (Ok (digits_of bytes, past_digits bytes)))
    by_length true e =
        let none : digits_of bytes ≡ [] = nil_from_length (digits_of bytes) (eqb-true (length (digits_of bytes)) 0 e) in
        let all : bytes ≡ past_digits bytes = sym (digits_split bytes) ∙ ap (λ (l : List ℕ). l ++ past_digits bytes) none in
        record {
          front = [];
          parts = refl;
          same = λ other h. rw ((no_digits other (same_no_digit (past_digits bytes) other (rw all at h) (past_no_digit bytes))).0) refl;
        }
    by_length false e =
        let read : digits_at bytes ≡ Ok (digits_of bytes, past_digits bytes) = rw e refl in
        record {
          front = digits_of bytes;
          parts = sym (digits_split bytes);
          same = λ other h. digits_again (digits_of bytes) other (digits_took bytes (digits_of bytes, past_digits bytes) read).1 (same_no_digit (past_digits bytes) other h (past_no_digit bytes));
        }

minus_steady : (bytes : List ℕ) → Steady (λ l. Ok (minus_at l)) bytes (Ok (minus_at bytes))
minus_steady [] = steady_end (λ l. Ok (minus_at l)) (Ok (false, [])) refl refl
minus_steady (b ∷ bs) = by_test (eqb b 45) refl
  where
    by_test : (t : Bool) → eqb b 45 ≡ t → Steady (λ l. Ok (minus_at l)) (b ∷ bs) (Ok (cond t (true, bs) (false, b ∷ bs)))
    by_test true e = steady_took (λ l. Ok (minus_at l)) (λ l. Ok (true, l)) b bs (Ok (true, bs)) (λ l. rw e refl) (steady_here true bs)
    by_test false e = steady_first (λ l. Ok (minus_at l)) (λ l. Ok (false, l)) b bs (Ok (false, b ∷ bs)) (λ l. rw e refl) (steady_here false (b ∷ bs))

whole_steady : (bytes : List ℕ) → Steady whole_at bytes (whole_at bytes)
unfolding whole_at
whole_steady [] = steady_end whole_at (Err []) refl refl
whole_steady (b ∷ bs) = by_test (eqb b 48) refl
  where
    by_test : (t : Bool) → eqb b 48 ≡ t → Steady whole_at (b ∷ bs) (cond t (Ok (48 ∷ [], bs)) (digits_at (b ∷ bs)))
    by_test true e = steady_took whole_at (λ l. Ok (48 ∷ [], l)) b bs (Ok (48 ∷ [], bs)) (λ l. rw e refl) (steady_here (48 ∷ []) bs)
    by_test false e = steady_first whole_at digits_at b bs (digits_at (b ∷ bs)) (λ l. rw e refl) (digits_steady (b ∷ bs))

fraction_steady : (bytes : List ℕ) → Steady fraction_at bytes (fraction_at bytes)
unfolding fraction_at
fraction_steady [] = steady_end fraction_at (Ok ([], [])) refl refl
fraction_steady (b ∷ bs) = by_test (eqb b 46) refl
  where
    by_test : (t : Bool) → eqb b 46 ≡ t → Steady fraction_at (b ∷ bs) (cond t (digits_at bs) (Ok ([], b ∷ bs)))
    by_test true e = steady_took fraction_at digits_at b bs (digits_at bs) (λ l. rw e refl) (digits_steady bs)
    by_test false e = steady_first fraction_at (λ l. Ok ([], l)) b bs (Ok ([], b ∷ bs)) (λ l. rw e refl) (steady_here [] (b ∷ bs))

sign_steady : (bytes : List ℕ) → Steady (λ l. Ok (exponent_sign_at l)) bytes (Ok (exponent_sign_at bytes))
sign_steady [] = steady_end (λ l. Ok (exponent_sign_at l)) (Ok (false, [])) refl refl
sign_steady (b ∷ bs) = by_test (eqb b 43) refl
  where
    by_test : (t : Bool) → eqb b 43 ≡ t → Steady (λ l. Ok (exponent_sign_at l)) (b ∷ bs) (Ok (cond t (false, bs) (minus_at (b ∷ bs))))
    by_test true e = steady_took (λ l. Ok (exponent_sign_at l)) (λ l. Ok (false, l)) b bs (Ok (false, bs)) (λ l. rw e refl) (steady_here false bs)
    by_test false e = steady_first (λ l. Ok (exponent_sign_at l)) (λ l. Ok (minus_at l)) b bs (Ok (minus_at (b ∷ bs))) (λ l. rw e refl) (minus_steady (b ∷ bs))

abbrev signed : Bool → List ℕ → List ℕ → (Bool × List ℕ) × List ℕ
signed s ds rest = ((s, ds), rest)

power_steady : (bytes : List ℕ) → Steady power_at bytes (power_at bytes)
unfolding power_at
power_steady bytes =
    steady_then (λ l. Ok (exponent_sign_at l)) (λ s l. digits_at l >>= λ digits. Ok (signed s digits.0 digits.1)) sign_steady
    (λ s l. steady_then digits_at (λ ds rest. Ok (signed s ds rest)) digits_steady (λ ds rest. steady_here (s, ds) rest) l)
    bytes

exponent_steady : (bytes : List ℕ) → Steady exponent_at bytes (exponent_at bytes)
unfolding exponent_at
exponent_steady [] = steady_end exponent_at (Ok ((false, []), [])) refl refl
exponent_steady (b ∷ bs) = by_test (eqb b 101 || eqb b 69) refl
  where
    by_test : (t : Bool) → (eqb b 101 || eqb b 69) ≡ t → Steady exponent_at (b ∷ bs) (cond t (power_at bs) (Ok ((false, []), b ∷ bs)))
    by_test true e = steady_took exponent_at power_at b bs (power_at bs) (λ l. rw e refl) (power_steady bs)
    by_test false e = steady_first exponent_at (λ l. Ok ((false, []), l)) b bs (Ok ((false, []), b ∷ bs)) (λ l. rw e refl) (steady_here (false, []) (b ∷ bs))

spelling_steady : (bytes : List ℕ) → Steady spelling_at bytes (spelling_at bytes)
unfolding spelling_at
spelling_steady bytes =
    steady_then (λ l. Ok (minus_at l)) (λ n l. whole_at l >>= λ w. fraction_at w.1 >>= λ f. exponent_at f.1 >>= λ x. Ok (spelled n w.0 f.0 x.0 x.1)) minus_steady (λ n.
    steady_then whole_at (λ w l. fraction_at l >>= λ f. exponent_at f.1 >>= λ x. Ok (spelled n w f.0 x.0 x.1)) whole_steady (λ w.
    steady_then fraction_at (λ f l. exponent_at l >>= λ x. Ok (spelled n w f x.0 x.1)) fraction_steady (λ f.
    steady_then exponent_at (λ x l. Ok (spelled n w f x l)) exponent_steady (λ x l. steady_here (spelled n w f x l).0 l))))
    bytes

-- ---- bytes that begin a number

digits_err : (bytes rest : List ℕ) → digits_at bytes ≡ Err rest → rest ≡ bytes
unfolding digits_at
digits_err bytes rest h = by_length (eqb (length (digits_of bytes)) 0) h
  where
    by_length : (t : Bool) → cond {A = Take (List ℕ)} t (Err bytes) (Ok (digits_of bytes, past_digits bytes)) ≡ Err rest → rest ≡ bytes
    by_length true e = sym (err_is bytes rest e)
    by_length false e = absurd cc

whole_err : (bytes rest : List ℕ) → whole_at bytes ≡ Err rest → rest ≡ bytes
unfolding whole_at
whole_err [] rest h = sym (err_is [] rest h)
whole_err (b ∷ bs) rest h = by_test (eqb b 48) h
  where
    by_test : (t : Bool) → cond {A = Take (List ℕ)} t (Ok (48 ∷ [], bs)) (digits_at (b ∷ bs)) ≡ Err rest → rest ≡ b ∷ bs
    by_test true e = absurd cc
    by_test false e = digits_err (b ∷ bs) rest e

fraction_err : (bytes rest : List ℕ) → fraction_at bytes ≡ Err rest → bytes ≡ 46 ∷ rest
unfolding fraction_at
fraction_err [] rest h = absurd cc
fraction_err (b ∷ bs) rest h = by_test (eqb b 46) refl h
  where
    by_test : (t : Bool) → eqb b 46 ≡ t → cond t (digits_at bs) (Ok ([], b ∷ bs)) ≡ Err rest → b ∷ bs ≡ 46 ∷ rest
    by_test true e g = ap (λ (c : ℕ). c ∷ bs) (eqb-true b 46 e) ∙ ap (λ (l : List ℕ). 46 ∷ l) (sym (digits_err bs rest g))
    by_test false e g = absurd cc

-- a mark and a sign, with no digit behind them
record Marked (bytes rest : List ℕ) : Type 0 where
  pub mark : ℕ
  pub sign : List ℕ
  pub lowers : Bool
  pub marks : (mark ≡ 101) ⊎ (mark ≡ 69)
  pub signs : IsSign sign lowers
  pub parts : bytes ≡ mark ∷ (sign ++ rest)

power_err : (bytes rest : List ℕ) → power_at bytes ≡ Err rest → rest ≡ (exponent_sign_at bytes).1
unfolding power_at
power_err bytes rest h =
    let sign = exponent_sign_at bytes in
    elim (bind_err (digits_at sign.1) (λ digits. Ok (signed sign.0 digits.0 digits.1)) rest h) [
      | inl e ↦ digits_err sign.1 rest e
      | inr e ↦ absurd (no_error sign.0 e.0 e.2)
    ]
  where
    no_error : (s : Bool) (x : List ℕ × List ℕ) → ◌≡◌ {A = Take (Bool × List ℕ)} (Ok (signed s x.0 x.1)) (Err rest) → ⊥
    no_error s x e = cc

exponent_err : (bytes rest : List ℕ) → exponent_at bytes ≡ Err rest → Marked bytes rest
unfolding exponent_at
exponent_err [] rest h = absurd cc
exponent_err (b ∷ bs) rest h = by_test (eqb b 101 || eqb b 69) refl h
  where
    by_test : (t : Bool) → (eqb b 101 || eqb b 69) ≡ t → cond t (power_at bs) (Ok ((false, []), b ∷ bs)) ≡ Err rest → Marked (b ∷ bs) rest
    by_test true e g =
        let s = sign_took bs in
        record {
          mark = b;
          sign = s.0;
          lowers = (exponent_sign_at bs).0;
          marks = elim (or_cases _ _ e) [ inl p ↦ inl (eqb-true b 101 p) | inr p ↦ inr (eqb-true b 69 p) ];
          signs = s.2;
          parts = ap (λ (l : List ℕ). b ∷ l) (s.1 ∙ ap (λ (l : List ℕ). s.0 ++ l) (sym (power_err bs rest g)));
        }
    by_test false e g = absurd cc

abbrev BegunNumber : List ℕ → List ℕ → Type 0
BegunNumber bytes rest = (front : List ℕ) × (bytes ≡ front ++ rest) × BeginsNumber front

begins_whole : (sign : List ℕ) (n : Bool) → IsMinus sign n → BeginsNumber sign
begins_whole sign n m =
    let zero_digit : List ℕ = 48 ∷ [] in
    let d : Digits = record { negative = n; whole = zero_digit; fraction = []; lowers = false; exponent = [] } in
    (zero_digit, d, record { sign = sign; fraction_part = []; exponent_part = []; minus = m; whole = inl (refl, refl); fraction = inl (refl, refl); exponent = inl (refl, refl, refl); bytes_are = refl })

begins_fraction : (sign whole : List ℕ) (n : Bool) → IsMinus sign n → IsWhole whole → BeginsNumber (sign ++ (whole ++ 46 ∷ []))
begins_fraction sign whole n m w =
    let zero_digit : List ℕ = 48 ∷ [] in
    let d : Digits = record { negative = n; whole = whole; fraction = zero_digit; lowers = false; exponent = [] } in (
      zero_digit,
      d,
      record {
        sign = sign;
        fraction_part = 46 ∷ zero_digit;
        exponent_part = [];
        minus = m;
        whole = w;
        fraction = inr (refl, (omega arith, ((omega arith, omega arith), tt)));
        exponent = inl (refl, refl, refl);
        bytes_are = append_assoc sign (whole ++ 46 ∷ []) zero_digit ∙ ap (λ (l : List ℕ). sign ++ l) (append_assoc whole (46 ∷ []) zero_digit);
      },
    )

begins_exponent : (sign whole part fraction : List ℕ) (n : Bool) (mark : ℕ) (exponent_sign : List ℕ) (lowers : Bool) → IsMinus sign n → IsWhole whole → IsFraction part fraction → (mark ≡ 101) ⊎ (mark ≡ 69) → IsSign exponent_sign lowers
    → BeginsNumber (sign ++ (whole ++ (part ++ mark ∷ exponent_sign)))
begins_exponent sign whole part fraction n mark exponent_sign lowers m w f marks signs =
    let zero_digit : List ℕ = 48 ∷ [] in
    let d : Digits = record { negative = n; whole = whole; fraction = fraction; lowers = lowers; exponent = zero_digit } in (
      zero_digit,
      d,
      record {
        sign = sign;
        fraction_part = part;
        exponent_part = mark ∷ (exponent_sign ++ zero_digit);
        minus = m;
        whole = w;
        fraction = f;
        exponent = inr (mark, exponent_sign, marks, signs, (omega arith, ((omega arith, omega arith), tt)), refl);
        bytes_are = append_assoc sign (whole ++ (part ++ mark ∷ exponent_sign)) zero_digit
            ∙ ap (λ (l : List ℕ). sign ++ l) (append_assoc whole (part ++ mark ∷ exponent_sign) zero_digit ∙ ap (λ (l : List ℕ). whole ++ l) (append_assoc part (mark ∷ exponent_sign) zero_digit));
      },
    )

spelling_err : (bytes rest : List ℕ) → spelling_at bytes ≡ Err rest → BegunNumber bytes rest
unfolding spelling_at
spelling_err bytes rest h =
    let m = minus_took bytes in
    let n = (minus_at bytes).0 in
    let unsigned = (minus_at bytes).1 in
    elim (bind_err (whole_at unsigned) (λ w. fraction_at w.1 >>= λ f. exponent_at f.1 >>= λ x. Ok (spelled n w.0 f.0 x.0 x.1)) rest h) [
      | inl e ↦ (m.0, m.1 ∙ ap (λ (l : List ℕ). m.0 ++ l) (sym (whole_err unsigned rest e)), begins_whole m.0 n m.2)
      | inr a ↦
          let w = whole_took unsigned a.0 a.1 in
          let whole_parts : bytes ≡ m.0 ++ (a.0.0 ++ a.0.1) = m.1 ∙ ap (λ (l : List ℕ). m.0 ++ l) w.0 in
          elim (bind_err (fraction_at a.0.1) (λ f. exponent_at f.1 >>= λ x. Ok (spelled n a.0.0 f.0 x.0 x.1)) rest a.2) [
            | inl e ↦ (
              m.0 ++ (a.0.0 ++ 46 ∷ []),
              whole_parts ∙ ap (λ (l : List ℕ). m.0 ++ (a.0.0 ++ l)) (fraction_err a.0.1 rest e) ∙ sym (append_assoc m.0 (a.0.0 ++ 46 ∷ []) rest ∙ ap (λ (l : List ℕ). m.0 ++ l) (append_assoc a.0.0 (46 ∷ []) rest)),
              begins_fraction m.0 a.0.0 n m.2 w.1,
            )
            | inr b ↦
                let f = fraction_took a.0.1 b.0 b.1 in
                elim (bind_err (exponent_at b.0.1) (λ x. Ok (spelled n a.0.0 b.0.0 x.0 x.1)) rest b.2) [
                  | inl e ↦
                      let x = exponent_err b.0.1 rest e in (
                        m.0 ++ (a.0.0 ++ (f.0 ++ x.mark ∷ x.sign)),
                        whole_parts ∙ ap (λ (l : List ℕ). m.0 ++ (a.0.0 ++ l)) (f.1 ∙ ap (λ (l : List ℕ). f.0 ++ l) x.parts)
                            ∙ sym (append_assoc m.0 (a.0.0 ++ (f.0 ++ x.mark ∷ x.sign)) rest ∙ ap (λ (l : List ℕ). m.0 ++ l) (append_assoc a.0.0 (f.0 ++ x.mark ∷ x.sign) rest ∙ ap (λ (l : List ℕ). a.0.0 ++ l) (append_assoc f.0 (x.mark ∷ x.sign) rest))),
                        begins_exponent m.0 a.0.0 f.0 b.0.0 n x.mark x.sign x.lowers m.2 w.1 f.2 x.marks x.signs,
                      )
                  | inr e ↦ absurd (no_error n a.0.0 b.0.0 e.0 e.2)
                ]
          ]
    ]
  where
    no_error : (n : Bool) (w f : List ℕ) (x : (Bool × List ℕ) × List ℕ) → ◌≡◌ {A = Take Digits} (Ok (spelled n w f x.0 x.1)) (Err rest) → ⊥
    no_error n w f x e = cc

-- ---- a number

found_numeral : Option (ℤ × ℕ) → ℕ → List ℕ → Option (ℤ × ℕ) × ℕ × List ℕ
found_numeral k at rest = (k, at, rest)

numeral_place : (at : ℕ) (front rest : List ℕ) → at + (length (front ++ rest) - length rest) ≡ at + length front
numeral_place at front rest = omega (arith, length-append front rest)

pub number_stuck : (Deeper : List ℕ → Type 0) (at : ℕ) (bytes : List ℕ) (e : JsonFault) → numeral_at at bytes ≡ Err e → Stuck numeral_at BeginsNumber Deeper at bytes e
unfolding numeral_at
number_stuck Deeper at bytes e h = by_spelling (spelling_at bytes) refl (spelling_steady bytes) h
  where
    stuck : (front rest : List ℕ) → bytes ≡ front ++ rest → BeginsNumber front → ((other : List ℕ) → SameFirst rest other → spelling_at (front ++ other) ≡ Err other) → e ≡ Syntax (at + length front) → Stuck numeral_at BeginsNumber Deeper at bytes e
    stuck front rest parts begins same fault =
        halt_stuck numeral_at BeginsNumber Deeper at bytes front rest e parts (inl begins) (subst (IsToldBy BeginsNumber at front rest) (sym fault) (inl refl))
        (λ other first. ap (numeral_from at (front ++ other)) (same other first) ∙ ap (λ (n : ℕ). Err (Syntax n)) (numeral_place at front other) ∙ sym (ap Err fault))

    by_spelling : (t : Take Digits) → spelling_at bytes ≡ t → Steady spelling_at bytes t → numeral_from at bytes t ≡ Err e → Stuck numeral_at BeginsNumber Deeper at bytes e
    by_spelling (Ok x) is s g = absurd cc
    by_spelling (Err rest) is s g =
        let b = spelling_err bytes rest is in
        let one : s.front ≡ b.0 = append_cancel_right s.front b.0 rest (sym s.parts ∙ b.1) in
        stuck s.front rest s.parts (subst BeginsNumber (sym one) b.2) s.same
        (sym (err_is (Syntax (at + (length bytes - length rest))) e g) ∙ ap (λ (l : List ℕ). Syntax (at + (length l - length rest))) s.parts ∙ ap Syntax (numeral_place at s.front rest))

pub number_alike : (at : ℕ) (bytes : List ℕ) (k : Option (ℤ × ℕ)) (after b : ℕ) (rest : List ℕ) → numeral_at at bytes ≡ Ok (k, after, b ∷ rest) → Alike numeral_at at bytes k after b rest
unfolding numeral_at found_numeral
number_alike at bytes k after b rest h = by_spelling (spelling_at bytes) (spelling_steady bytes) h
  where
    by_spelling : (t : Take Digits) → Steady spelling_at bytes t → numeral_from at bytes t ≡ Ok (found_numeral k after (b ∷ rest)) → Alike numeral_at at bytes k after b rest
    by_spelling (Err old) s g = absurd cc
    by_spelling (Ok x) s g =
        let p : found_numeral (numeral_of_digits x.0) (at + (length bytes - length x.1)) x.1 ≡ found_numeral k after (b ∷ rest) = ok_is (found_numeral (numeral_of_digits x.0) (at + (length bytes - length x.1)) x.1) (found_numeral k after (b ∷ rest)) g in
        let number : numeral_of_digits x.0 ≡ k = ap (λ (y : Option (ℤ × ℕ) × ℕ × List ℕ). y.0) p in
        let what_left : x.1 ≡ b ∷ rest = ap (λ (y : Option (ℤ × ℕ) × ℕ × List ℕ). y.2) p in
        let parts : bytes ≡ s.front ++ b ∷ rest = s.parts ∙ ap (λ (l : List ℕ). s.front ++ l) what_left in
        let place : after ≡ at + length s.front = sym (ap (λ (y : Option (ℤ × ℕ) × ℕ × List ℕ). y.1) p) ∙ ap (λ (l : List ℕ). at + (length bytes - length l)) what_left ∙ ap (λ (l : List ℕ). at + (length l - length (b ∷ rest))) parts ∙ numeral_place at s.front (b ∷ rest) in
        record {
          front = s.front;
          parts = parts;
          place = place;
          same = λ more. ap (numeral_from at (s.front ++ b ∷ more)) (s.same (b ∷ more) (subst (λ (l : List ℕ). SameFirst l (b ∷ more)) (sym what_left) refl))
              ∙ ap (λ (y : Option (ℤ × ℕ) × ℕ). Ok (y.0, y.1, b ∷ more)) (pair number (numeral_place at s.front (b ∷ more) ∙ sym place));
        }
      where
        pair : {u v : Option (ℤ × ℕ)} {m n : ℕ} → u ≡ v → m ≡ n → ◌≡◌ {A = Option (ℤ × ℕ) × ℕ} (u, m) (v, n)
        pair e f = λ i. (e i, f i)
