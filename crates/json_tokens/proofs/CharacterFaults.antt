-- Where a character of a text stops.
use Rattle.std.proofs.Common.{◌≡◌, ℕ, ◌+◌, ◌-◌, ◌*◌, ◌<◌, ◌≤◌, ◌⊎◌, inl, inr, Bool, true, false, cond, eqb, ltb, leb, ◌||◌, List, [], ◌∷◌, ◌++◌, length, Option, Some, None, Ok, Err, refl, sym, ap, subst, ◌∙◌, append_assoc, length-append, arith}
use Rattle.std.specs.List.{AllByRecursion}
use Rattle.std.proofs.lemmas.Bool.{eqb-true, ltb-false, leb-true, leb-false, or_parts}
use Rattle.std.proofs.lemmas.List.{append-nil}
use Rattle.json_tokens.specs.declared.fault.JsonFault.{JsonFault}
use Rattle.json_tokens.specs.declared.fault.JsonFault.TheVariants.{Syntax}
use Rattle.json_tokens.specs.Reading.{◌>>=◌, Read}
use Rattle.json_tokens.specs.Tables.{hex_value, short_escape}
use Rattle.json_tokens.specs.ReadingTexts.{digit_or, hex_at, unit_at, half_byte_at, half_digit_at, half_end_at, half_digits_at, second_half_at, pair_at, unicode_at, escape_at, sequence_at, character_at}
use Rattle.json_tokens.specs.Grammar.{IsUnit}
use Rattle.json_tokens.specs.Faults.{IsLawful, IsHexadecimal, BeginsSecond}
use Rattle.json_tokens.proofs.TextLaws.{hex_small, half_again, unit_took, unit_again, NoQuote, length_unit}
use Rattle.json_tokens.proofs.FirstBytes.{SameFirst, same_some}
use Rattle.json_tokens.proofs.Halts.{IsToldBy, Halts, halts_end, halts_byte, halts_behind, bind_err, err_is}
use Rattle.json_tokens.proofs.TextBegins.{CharacterStop, stops_here, begins_nothing, begins_character, begins_letter}
use Rattle.json_tokens.proofs.SequenceFaults.{raw_halts}
use Rattle.json_tokens.proofs.Stuck.{BeginsText}

abbrev found : ℕ → ℕ → List ℕ → ℕ × ℕ × List ℕ
found c at rest = (c, at, rest)

-- ---- a byte that stands for a value

digit_then : {X : Type 0} (value : ℕ → Option ℕ) (fault : JsonFault) (at : ℕ) (next : ℕ × ℕ × List ℕ → Read X) (read : List ℕ → Read X) (Stop : List ℕ → List ℕ → Type 0) (e : JsonFault) → read [] ≡ Err (Syntax at)
    → ((b : ℕ) (l : List ℕ) → read (b ∷ l) ≡ (digit_or fault (value b) (at + 1) l >>= next)) → (e ≡ Syntax at → Stop [] []) → ((b : ℕ) (bs : List ℕ) → e ≡ fault → Stop [] (b ∷ bs))
    → ((b v : ℕ) (bs : List ℕ) → value b ≡ Some v → ((l : List ℕ) → read (b ∷ l) ≡ next (found v (at + 1) l)) → next (found v (at + 1) bs) ≡ Err e → Halts read Stop (b ∷ bs) e)
    → (bytes : List ℕ) → read bytes ≡ Err e → Halts read Stop bytes e
digit_then value fault at next read Stop e r0 r1 ended shown more [] h = halts_end read Stop e (ended (err_is e (Syntax at) (sym h ∙ r0))) h
digit_then value fault at next read Stop e r0 r1 ended shown more (b ∷ bs) h = by_value (value b) refl
  where
    by_value : (o : Option ℕ) → value b ≡ o → Halts read Stop (b ∷ bs) e
    by_value None is =
        let fails : (l : List ℕ) → read (b ∷ l) ≡ Err fault = λ l. r1 b l ∙ ap (λ o. digit_or fault o (at + 1) l >>= next) is in
        let same : e ≡ fault = err_is e fault (sym h ∙ fails bs) in
        halts_byte read Stop b bs e (shown b bs same) (λ l. fails l ∙ ap Err (sym same))
    by_value (Some v) is =
        let passes : (l : List ℕ) → read (b ∷ l) ≡ next (found v (at + 1) l) = λ l. r1 b l ∙ ap (λ o. digit_or fault o (at + 1) l >>= next) is in
        more b v bs is passes (sym (passes bs) ∙ h)

half_byte_then : {X : Type 0} (start wanted at : ℕ) (next : ℕ × List ℕ → Read X) (read : List ℕ → Read X) (Stop : List ℕ → List ℕ → Type 0) (e : JsonFault) → read [] ≡ Err (Syntax at)
    → ((b : ℕ) (l : List ℕ) → read (b ∷ l) ≡ (half_byte_at start wanted at (b ∷ l) >>= next)) → (e ≡ Syntax at → Stop [] []) → ((b : ℕ) (bs : List ℕ) → e ≡ Syntax start → Stop [] (b ∷ bs))
    → ((bs : List ℕ) → next (at + 1, bs) ≡ Err e → Halts (λ l. next (at + 1, l)) (λ front rest. Stop (wanted ∷ front) rest) bs e)
    → (bytes : List ℕ) → read bytes ≡ Err e → Halts read Stop bytes e
half_byte_then start wanted at next read Stop e r0 r1 ended shown more [] h = halts_end read Stop e (ended (err_is e (Syntax at) (sym h ∙ r0))) h
half_byte_then start wanted at next read Stop e r0 r1 ended shown more (b ∷ bs) h = by_test (eqb b wanted) refl
  where
    by_test : (t : Bool) → eqb b wanted ≡ t → Halts read Stop (b ∷ bs) e
    by_test false is =
        let fails : (l : List ℕ) → read (b ∷ l) ≡ Err (Syntax start) = λ l. r1 b l ∙ rw is refl in
        let same : e ≡ Syntax start = err_is e (Syntax start) (sym h ∙ fails bs) in
        halts_byte read Stop b bs e (shown b bs same) (λ l. fails l ∙ ap Err (sym same))
    by_test true is =
        let passes : (l : List ℕ) → read (b ∷ l) ≡ next (at + 1, l) = λ l. r1 b l ∙ rw is refl in
        let one : b ≡ wanted = eqb-true b wanted is in
        subst (λ (c : ℕ). Halts read Stop (c ∷ bs) e) (sym one)
        (halts_behind read (λ l. next (at + 1, l)) Stop (wanted ∷ []) bs e (λ l g. ap (λ (c : ℕ). read (c ∷ l)) (sym one) ∙ passes l ∙ g) (more bs (sym (passes bs) ∙ h)))

-- ---- four digits

abbrev HexStop : ℕ → JsonFault → List ℕ → List ℕ → Type 0
HexStop at e front rest = (length front < 4) × AllByRecursion IsHexadecimal front × (e ≡ Syntax (at + length front))

hex_stop : (at : ℕ) (e : JsonFault) (front rest : List ℕ) (place : ℕ) → length front < 4 → AllByRecursion IsHexadecimal front → place ≡ at + length front → e ≡ Syntax place → HexStop at e front rest
hex_stop at e front rest place few are p h = (few, are, h ∙ ap Syntax p)

unit_halts : (at : ℕ) (bytes : List ℕ) (e : JsonFault) → unit_at at bytes ≡ Err e → Halts (unit_at at) (HexStop at e) bytes e
unfolding unit_at
unit_halts at bytes e h =
    let value : ℕ → ℕ → ℕ → ℕ → ℕ = λ p q r s. p * 0x1000 + q * 0x100 + r * 0x10 + s in
    let Stop : List ℕ → List ℕ → Type 0 = HexStop at e in
    let fourth : ℕ → ℕ → ℕ → ℕ × ℕ × List ℕ → Read ℕ = λ p q r s. Ok (found (value p q r s.0) s.1 s.2) in
    let third : ℕ → ℕ → ℕ × ℕ × List ℕ → Read ℕ = λ p q r. hex_at r.1 r.2 >>= fourth p q r.0 in
    let second : ℕ → ℕ × ℕ × List ℕ → Read ℕ = λ p q. hex_at q.1 q.2 >>= third p q.0 in
    let first : ℕ × ℕ × List ℕ → Read ℕ = λ p. hex_at p.1 p.2 >>= second p.0 in
    digit_then hex_value (Syntax at) at first (unit_at at) Stop e refl (λ b l. refl)
    (λ w. hex_stop at e [] [] at (omega arith) tt (omega arith) w)
    (λ b bs w. hex_stop at e [] (b ∷ bs) at (omega arith) tt (omega arith) w)
    (λ a p behind_a a_is step1 h1.
    halts_behind (unit_at at) (λ l. first (found p (at + 1) l)) Stop (a ∷ []) behind_a e (λ l g. step1 l ∙ g)
    (digit_then hex_value (Syntax (at + 1)) (at + 1) (second p) (λ l. first (found p (at + 1) l)) (λ front rest. Stop (a ∷ front) rest) e refl (λ b l. refl)
    (λ w. hex_stop at e (a ∷ []) [] (at + 1) (omega arith) ((p, a_is), tt) (omega arith) w)
    (λ b bs w. hex_stop at e (a ∷ []) (b ∷ bs) (at + 1) (omega arith) ((p, a_is), tt) (omega arith) w)
    (λ b q behind_b b_is step2 h2.
    halts_behind (λ l. first (found p (at + 1) l)) (λ l. second p (found q (at + 1 + 1) l)) (λ front rest. Stop (a ∷ front) rest) (b ∷ []) behind_b e (λ l g. step2 l ∙ g)
    (digit_then hex_value (Syntax (at + 1 + 1)) (at + 1 + 1) (third p q) (λ l. second p (found q (at + 1 + 1) l)) (λ front rest. Stop (a ∷ b ∷ front) rest) e refl (λ b l. refl)
    (λ w. hex_stop at e (a ∷ b ∷ []) [] (at + 1 + 1) (omega arith) ((p, a_is), ((q, b_is), tt)) (omega arith) w)
    (λ c cs w. hex_stop at e (a ∷ b ∷ []) (c ∷ cs) (at + 1 + 1) (omega arith) ((p, a_is), ((q, b_is), tt)) (omega arith) w)
    (λ c r behind_c c_is step3 h3.
    halts_behind (λ l. second p (found q (at + 1 + 1) l)) (λ l. third p q (found r (at + 1 + 1 + 1) l)) (λ front rest. Stop (a ∷ b ∷ front) rest) (c ∷ []) behind_c e (λ l g. step3 l ∙ g)
    (digit_then hex_value (Syntax (at + 1 + 1 + 1)) (at + 1 + 1 + 1) (fourth p q r) (λ l. third p q (found r (at + 1 + 1 + 1) l)) (λ front rest. Stop (a ∷ b ∷ c ∷ front) rest) e refl (λ b l. refl)
    (λ w. hex_stop at e (a ∷ b ∷ c ∷ []) [] (at + 1 + 1 + 1) (omega arith) ((p, a_is), ((q, b_is), ((r, c_is), tt))) (omega arith) w)
    (λ d ds w. hex_stop at e (a ∷ b ∷ c ∷ []) (d ∷ ds) (at + 1 + 1 + 1) (omega arith) ((p, a_is), ((q, b_is), ((r, c_is), tt))) (omega arith) w)
    (λ d s behind_d d_is step4 h4. absurd (no_error (value p q r s) (at + 1 + 1 + 1 + 1) behind_d h4))
    behind_c h3))
    behind_b h2))
    behind_a h1))
    bytes h
  where
    no_error : (c n : ℕ) (l : List ℕ) → ◌≡◌ {A = Read ℕ} (Ok (found c n l)) (Err e) → ⊥
    no_error c n l k = cc

-- ---- the second half of a pair

-- the digits of a second half
low_unit : (a b c d p q r s : ℕ) → hex_value a ≡ Some p → hex_value b ≡ Some q → hex_value c ≡ Some r → hex_value d ≡ Some s → IsUnit (a ∷ b ∷ c ∷ d ∷ []) (p * 0x1000 + q * 0x100 + r * 0x10 + s)
low_unit a b c d p q r s a_is b_is c_is d_is = record { first = p; second = q; third = r; fourth = s; a = a; b = b; c = c; d = d; digits_are = refl; a_is = a_is; b_is = b_is; c_is = c_is; d_is = d_is; unit_is = refl }

-- bytes with which the escape of a second half begins, and a byte that may come next
abbrev pub BeginsHalf : List ℕ → Type 0
BeginsHalf part = (other : ℕ) × BeginsSecond (part ++ other ∷ [])

begins_half : (part : List ℕ) (other : ℕ) (more : List ℕ) (a b c d p q r s : ℕ) → hex_value a ≡ Some p → hex_value b ≡ Some q → hex_value c ≡ Some r → hex_value d ≡ Some s → p ≡ 0xd → 0xc ≤ q
    → 92 ∷ 117 ∷ a ∷ b ∷ c ∷ d ∷ [] ≡ part ++ other ∷ more → BeginsHalf part
begins_half part other more a b c d p q r s a_is b_is c_is d_is thirteen twelve e =
    let unit : ℕ = p * 0x1000 + q * 0x100 + r * 0x10 + s in
    let upper : unit < 0xe000 = omega (arith, hex_small b q b_is, hex_small c r c_is, hex_small d s d_is) in
    (other, (more, a ∷ b ∷ c ∷ d ∷ [], unit, low_unit a b c d p q r s a_is b_is c_is d_is, omega arith, upper, append_assoc part (other ∷ []) more ∙ sym e))

-- the first half, with its digits, begins at start
module _ (start high : ℕ) (digits : List ℕ) (e : JsonFault) (code : IsUnit digits high) (lower : 0xd800 ≤ high) (upper : high < 0xdc00) where
  -- the fault at the end, or at a byte with which no second half begins
  abbrev PairStop : List ℕ → List ℕ → Type 0
  PairStop part rest = BeginsHalf part × (((e ≡ Syntax (start + 6 + length part)) × (rest ≡ [])) ⊎ ((e ≡ Syntax start) × (b : ℕ) × (bs : List ℕ) × (rest ≡ b ∷ bs)))

  begins_pair : (part : List ℕ) → BeginsHalf part → BeginsText (92 ∷ 117 ∷ (digits ++ part))
  begins_pair part h =
      let more = h.1.0 in
      begins_character (92 ∷ 117 ∷ (digits ++ part)) (h.0 ∷ more) (0x10000 + (high - 0xd800) * 0x400 + (h.1.2 - 0xdc00)) (inr (inr (inr (record {
        high = high;
        low = h.1.2;
        high_digits = digits;
        low_digits = h.1.1;
        high_code = code;
        low_code = h.1.3;
        is_high = (lower, upper);
        is_low = (h.1.4, h.1.5);
        spelling_is = ap (λ (l : List ℕ). 92 ∷ 117 ∷ l) (append_assoc digits part (h.0 ∷ more) ∙ ap (λ (l : List ℕ). digits ++ l) (sym (append_assoc part (h.0 ∷ []) more) ∙ h.1.6));
        character = refl;
      }))))

  pair_ended : (part : List ℕ) (place : ℕ) → BeginsHalf part → place ≡ start + 6 + length part → e ≡ Syntax place → PairStop part []
  pair_ended part place h p w = (h, inl (w ∙ ap Syntax p, refl))

  pair_shown : (part : List ℕ) (b : ℕ) (bs : List ℕ) → BeginsHalf part → e ≡ Syntax start → PairStop part (b ∷ bs)
  pair_shown part b bs h w = (h, inr (w, b, bs, refl))

  no_half : (c n : ℕ) (l : List ℕ) → ◌≡◌ {A = Read ℕ} (Ok (found c n l)) (Err e) → ⊥
  no_half c n l k = cc

  -- the last two digits
  half_end_halts : (at : ℕ) → at ≡ start + 10 → (a b q : ℕ) → hex_value a ≡ Some 0xd → hex_value b ≡ Some q → 0xc ≤ q → (bytes : List ℕ) → half_end_at start q at bytes ≡ Err e
      → Halts (half_end_at start q at) (λ front rest. PairStop (92 ∷ 117 ∷ a ∷ b ∷ front) rest) bytes e
  unfolding half_end_at
  half_end_halts at place a b q a_is b_is twelve bytes h =
      let value : ℕ → ℕ → ℕ = λ r s. 0xd000 + q * 0x100 + r * 0x10 + s in
      let fourth : ℕ → ℕ × ℕ × List ℕ → Read ℕ = λ r s. Ok (found (value r s.0) s.1 s.2) in
      let third : ℕ × ℕ × List ℕ → Read ℕ = λ r. half_digit_at start r.1 r.2 >>= fourth r.0 in
      let begun = begins_half (92 ∷ 117 ∷ a ∷ b ∷ []) 48 (48 ∷ []) a b 48 48 0xd q 0 0 a_is b_is refl refl refl twelve refl in
      digit_then hex_value (Syntax start) at third (half_end_at start q at) (λ front rest. PairStop (92 ∷ 117 ∷ a ∷ b ∷ front) rest) e refl (λ b l. refl)
      (λ w. pair_ended (92 ∷ 117 ∷ a ∷ b ∷ []) at begun (omega arith) w)
      (λ c cs w. pair_shown (92 ∷ 117 ∷ a ∷ b ∷ []) c cs begun w)
      (λ c r behind_c c_is step g.
      let more = begins_half (92 ∷ 117 ∷ a ∷ b ∷ c ∷ []) 48 [] a b c 48 0xd q r 0 a_is b_is c_is refl refl twelve refl in
      halts_behind (half_end_at start q at) (λ l. third (found r (at + 1) l)) (λ front rest. PairStop (92 ∷ 117 ∷ a ∷ b ∷ front) rest) (c ∷ []) behind_c e (λ l k. step l ∙ k)
      (digit_then hex_value (Syntax start) (at + 1) (fourth r) (λ l. third (found r (at + 1) l)) (λ front rest. PairStop (92 ∷ 117 ∷ a ∷ b ∷ c ∷ front) rest) e refl (λ b l. refl)
      (λ w. pair_ended (92 ∷ 117 ∷ a ∷ b ∷ c ∷ []) (at + 1) more (omega arith) w)
      (λ d ds w. pair_shown (92 ∷ 117 ∷ a ∷ b ∷ c ∷ []) d ds more w)
      (λ d s behind_d d_is step4 k. absurd (no_half (value r s) (at + 1 + 1) behind_d k))
      behind_c g))
      bytes h

  abbrev half_second : ℕ × ℕ × List ℕ → Read ℕ
  half_second q = cond (ltb q.0 0xc) (Err (Syntax start)) (half_end_at start q.0 q.1 q.2)

  abbrev half_first : ℕ × ℕ × List ℕ → Read ℕ
  half_first p = cond (eqb p.0 0xd) (half_digit_at start p.1 p.2) (Err (Syntax start)) >>= half_second

  second_digit : (read : List ℕ → Read ℕ) (at : ℕ) → at ≡ start + 10 → (a b q : ℕ) (bs : List ℕ) → hex_value a ≡ Some 0xd → hex_value b ≡ Some q → ((l : List ℕ) → read (b ∷ l) ≡ half_second (found q at l)) → half_second (found q at bs) ≡ Err e
      → (t : Bool) → ltb q 0xc ≡ t → Halts read (λ front rest. PairStop (92 ∷ 117 ∷ a ∷ front) rest) (b ∷ bs) e
  second_digit read at place a b q bs a_is b_is step h true is =
      let begun = begins_half (92 ∷ 117 ∷ a ∷ []) 99 (48 ∷ 48 ∷ []) a 99 48 48 0xd 0xc 0 0 a_is refl refl refl refl (omega arith) refl in
      let fails : (l : List ℕ) → half_second (found q at l) ≡ Err (Syntax start) = λ l. rw is refl in
      let fault : e ≡ Syntax start = err_is e (Syntax start) (sym h ∙ fails bs) in
      halts_byte read (λ front rest. PairStop (92 ∷ 117 ∷ a ∷ front) rest) b bs e (pair_shown (92 ∷ 117 ∷ a ∷ []) b bs begun fault) (λ l. step l ∙ fails l ∙ ap Err (sym fault))
  second_digit read at place a b q bs a_is b_is step h false is =
      let passes : (l : List ℕ) → half_second (found q at l) ≡ half_end_at start q at l = λ l. rw is refl in
      halts_behind read (half_end_at start q at) (λ front rest. PairStop (92 ∷ 117 ∷ a ∷ front) rest) (b ∷ []) bs e (λ l g. step l ∙ passes l ∙ g)
      (half_end_halts at place a b q a_is b_is (ltb-false q 0xc is) bs (sym (passes bs) ∙ h))

  first_digit : (read : List ℕ → Read ℕ) (at : ℕ) → at ≡ start + 9 → (a p : ℕ) (bs : List ℕ) → hex_value a ≡ Some p → ((l : List ℕ) → read (a ∷ l) ≡ half_first (found p at l)) → half_first (found p at bs) ≡ Err e
      → (t : Bool) → eqb p 0xd ≡ t → Halts read (λ front rest. PairStop (92 ∷ 117 ∷ front) rest) (a ∷ bs) e
  first_digit read at place a p bs a_is step h false is =
      let begun = begins_half (92 ∷ 117 ∷ []) 100 (99 ∷ 48 ∷ 48 ∷ []) 100 99 48 48 0xd 0xc 0 0 refl refl refl refl refl (omega arith) refl in
      let fails : (l : List ℕ) → half_first (found p at l) ≡ Err (Syntax start) = λ l. rw is refl in
      let fault : e ≡ Syntax start = err_is e (Syntax start) (sym h ∙ fails bs) in
      halts_byte read (λ front rest. PairStop (92 ∷ 117 ∷ front) rest) a bs e (pair_shown (92 ∷ 117 ∷ []) a bs begun fault) (λ l. step l ∙ fails l ∙ ap Err (sym fault))
  first_digit read at place a p bs a_is step h true is =
      let thirteen : hex_value a ≡ Some 0xd = a_is ∙ ap Some (eqb-true p 0xd is) in
      let begun = begins_half (92 ∷ 117 ∷ a ∷ []) 99 (48 ∷ 48 ∷ []) a 99 48 48 0xd 0xc 0 0 thirteen refl refl refl refl (omega arith) refl in
      let second : List ℕ → Read ℕ = λ l. half_digit_at start at l >>= half_second in
      let passes : (l : List ℕ) → half_first (found p at l) ≡ second l = λ l. rw is refl in
      halts_behind read second (λ front rest. PairStop (92 ∷ 117 ∷ front) rest) (a ∷ []) bs e (λ l g. step l ∙ passes l ∙ g)
      (digit_then hex_value (Syntax start) at half_second second (λ front rest. PairStop (92 ∷ 117 ∷ a ∷ front) rest) e refl (λ b l. refl)
      (λ w. pair_ended (92 ∷ 117 ∷ a ∷ []) at begun (omega arith) w)
      (λ b bs w. pair_shown (92 ∷ 117 ∷ a ∷ []) b bs begun w)
      (λ b q behind_b b_is step2 g. second_digit second (at + 1) (omega arith) a b q behind_b thirteen b_is step2 g (ltb q 0xc) refl)
      bs (sym (passes bs) ∙ h))

  half_digits_halts : (at : ℕ) → at ≡ start + 8 → (bytes : List ℕ) → half_digits_at start at bytes ≡ Err e → Halts (half_digits_at start at) (λ front rest. PairStop (92 ∷ 117 ∷ front) rest) bytes e
  unfolding half_digits_at
  half_digits_halts at place bytes h =
      let begun = begins_half (92 ∷ 117 ∷ []) 100 (99 ∷ 48 ∷ 48 ∷ []) 100 99 48 48 0xd 0xc 0 0 refl refl refl refl refl (omega arith) refl in
      digit_then hex_value (Syntax start) at half_first (half_digits_at start at) (λ front rest. PairStop (92 ∷ 117 ∷ front) rest) e refl (λ b l. refl)
      (λ w. pair_ended (92 ∷ 117 ∷ []) at begun (omega arith) w)
      (λ b bs w. pair_shown (92 ∷ 117 ∷ []) b bs begun w)
      (λ a p behind_a a_is step g. first_digit (half_digits_at start at) (at + 1) (omega arith) a p behind_a a_is step g (eqb p 0xd) refl)
      bytes h

  second_half_halts : (at : ℕ) → at ≡ start + 6 → (bytes : List ℕ) → second_half_at start at bytes ≡ Err e → Halts (second_half_at start at) PairStop bytes e
  unfolding second_half_at
  second_half_halts at place bytes h =
      let begun = begins_half [] 92 (117 ∷ 100 ∷ 99 ∷ 48 ∷ 48 ∷ []) 100 99 48 48 0xd 0xc 0 0 refl refl refl refl refl (omega arith) refl in
      let with_backslash = begins_half (92 ∷ []) 117 (100 ∷ 99 ∷ 48 ∷ 48 ∷ []) 100 99 48 48 0xd 0xc 0 0 refl refl refl refl refl (omega arith) refl in
      let behind_u : ℕ × List ℕ → Read ℕ = λ u. half_digits_at start u.0 u.1 in
      let behind_backslash : ℕ × List ℕ → Read ℕ = λ backslash. half_byte_at start 117 backslash.0 backslash.1 >>= behind_u in
      half_byte_then start 92 at behind_backslash (second_half_at start at) PairStop e refl (λ b l. refl)
      (λ w. pair_ended [] at begun (omega arith) w)
      (λ b bs w. pair_shown [] b bs begun w)
      (λ bs g.
      half_byte_then start 117 (at + 1) behind_u (λ l. behind_backslash (at + 1, l)) (λ front rest. PairStop (92 ∷ front) rest) e refl (λ b l. refl)
      (λ w. pair_ended (92 ∷ []) (at + 1) with_backslash (omega arith) w)
      (λ c cs w. pair_shown (92 ∷ []) c cs with_backslash w)
      (λ cs k. half_digits_halts (at + 1 + 1) (omega arith) cs k)
      bs g)
      bytes h

  -- what is told of a second half that breaks off: the first one is alone, or the bytes end too early
  pub second_fault : (at : ℕ) → at ≡ start + 6 → (bytes : List ℕ) → second_half_at start at bytes ≡ Err e → (e ≡ Syntax start) ⊎ BeginsHalf bytes
  second_fault at place bytes h = by_stop (second_half_halts at place bytes h)
    where
      by_stop : Halts (second_half_at start at) PairStop bytes e → (e ≡ Syntax start) ⊎ BeginsHalf bytes
      by_stop k = by_fault k.is.1
        where
          by_fault : ((e ≡ Syntax (start + 6 + length k.front)) × (k.rest ≡ [])) ⊎ ((e ≡ Syntax start) × (b : ℕ) × (bs : List ℕ) × (k.rest ≡ b ∷ bs)) → (e ≡ Syntax start) ⊎ BeginsHalf bytes
          by_fault (inl w) = inr (subst BeginsHalf (sym (k.parts ∙ ap (λ (l : List ℕ). k.front ++ l) w.1 ∙ append-nil k.front)) k.is.0)
          by_fault (inr w) = inl w.0

  -- what no reader takes begins no second half
  no_second : (at : ℕ) (bytes : List ℕ) → ((l : List ℕ) → second_half_at start at (bytes ++ l) ≡ Err e) → BeginsSecond bytes → ⊥
  no_second at bytes fails h =
      let all : bytes ++ h.0 ≡ 92 ∷ 117 ∷ (h.1 ++ []) = h.6 ∙ ap (λ (l : List ℕ). 92 ∷ 117 ∷ l) (sym (append-nil h.1)) in
      no_half h.2 (at + 6) [] (sym (ap (second_half_at start at) all ∙ half_again start at h.1 h.2 [] h.3 h.4 h.5) ∙ fails h.0)

  pair_stop : (at : ℕ) (bytes : List ℕ) (h : Halts (second_half_at start at) PairStop bytes e) → CharacterStop start e (92 ∷ 117 ∷ (digits ++ h.front)) h.rest
  pair_stop at bytes h = by_fault h.is.1
    where
      front : List ℕ
      front = 92 ∷ 117 ∷ (digits ++ h.front)

      by_fault : ((e ≡ Syntax (start + 6 + length h.front)) × (h.rest ≡ [])) ⊎ ((e ≡ Syntax start) × (b : ℕ) × (bs : List ℕ) × (h.rest ≡ b ∷ bs)) → CharacterStop start e front h.rest
      by_fault (inl w) = stops_here start e front h.rest (inl (begins_pair h.front h.is.0)) (w.0 ∙ ap Syntax (omega (arith, length-append digits h.front, length_unit digits high code)))
      by_fault (inr w) =
          let b = w.1 in
          let fails : (l : List ℕ) → second_half_at start at ((h.front ++ b ∷ []) ++ l) ≡ Err e = λ l. ap (second_half_at start at) (append_assoc h.front (b ∷ []) l) ∙ h.same (b ∷ l) (subst (λ (r : List ℕ). SameFirst r (b ∷ l)) (sym w.3) refl) in (
            inl (begins_pair h.front h.is.0),
            subst (IsToldBy BeginsText start front h.rest) (sym w.0) (inr (record {
              before = [];
              digits = digits;
              unit = high;
              behind = h.front ++ b ∷ [];
              shows = record { byte = b; behind = w.2; rest_is = w.3; parts = ap (λ (l : List ℕ). 92 ∷ 117 ∷ l) (append_assoc digits h.front (b ∷ [])) };
              place = omega arith;
              in_quotes = begins_letter;
              code = code;
              alone = inr (lower, upper, (h.front, b, h.is.0.0, refl, h.is.0.1, no_second at (h.front ++ b ∷ []) fails));
            })),
          )

  pair_halts : (at : ℕ) → at ≡ start + 6 → (bytes : List ℕ) → pair_at start high at bytes ≡ Err e → Halts (pair_at start high at) (λ part rest. CharacterStop start e (92 ∷ 117 ∷ (digits ++ part)) rest) bytes e
  unfolding pair_at
  pair_halts at place bytes h =
      let next : ℕ × ℕ × List ℕ → Read ℕ = λ second. Ok (found (0x10000 + (high - 0xd800) * 0x400 + (second.0 - 0xdc00)) second.1 second.2) in
      elim (bind_err (second_half_at start at bytes) next e h) [
        | inl f ↦
            let s = second_half_halts at place bytes f in
            record { front = s.front; rest = s.rest; parts = s.parts; is = pair_stop at bytes s; same = λ other g. ap (λ r. r >>= next) (s.same other g) }
        | inr a ↦ absurd (no_half (0x10000 + (high - 0xd800) * 0x400 + (a.0.0 - 0xdc00)) a.0.1 a.0.2 a.2)
      ]

-- ---- escapes

-- behind a backslash and a u, with the backslash at start
abbrev UnicodeStop : ℕ → JsonFault → List ℕ → List ℕ → Type 0
UnicodeStop start e front rest = CharacterStop start e (92 ∷ 117 ∷ front) rest

unfinished : (front : List ℕ) → length front < 4 → AllByRecursion IsHexadecimal front → IsLawful BeginsText (92 ∷ 117 ∷ front)
unfinished front few are = inr (record { before = []; digits = front; bytes_are = refl; in_quotes = begins_letter; few = few; hexadecimal = are })

-- a second half with no first is told with its last digit
low_half : (start at unit : ℕ) (digits rest : List ℕ) (e : JsonFault) → IsUnit digits unit → 0xdc00 ≤ unit → unit < 0xe000 → ((l : List ℕ) → unicode_at start at (digits ++ l) ≡ Err (Syntax start)) → e ≡ Syntax start
    → Halts (unicode_at start at) (UnicodeStop start e) (digits ++ rest) e
low_half start at unit digits rest e u lower upper fails fault =
    let front : List ℕ = u.a ∷ u.b ∷ u.c ∷ [] in
    let all : (l : List ℕ) → digits ++ l ≡ front ++ u.d ∷ l = λ l. ap (λ (ds : List ℕ). ds ++ l) u.digits_are in
    record {
      front = front;
      rest = u.d ∷ rest;
      parts = all rest;
      is = (
        unfinished front (omega arith) ((u.first, u.a_is), ((u.second, u.b_is), ((u.third, u.c_is), tt))),
        subst (IsToldBy BeginsText start (92 ∷ 117 ∷ front) (u.d ∷ rest)) (sym fault) (inr (record {
          before = [];
          digits = digits;
          unit = unit;
          behind = [];
          shows = record { byte = u.d; behind = rest; rest_is = refl; parts = ap (λ (l : List ℕ). 92 ∷ 117 ∷ l) (sym (all [])) };
          place = omega arith;
          in_quotes = begins_letter;
          code = u;
          alone = inl (lower, upper, refl);
        })),
      );
      same = λ other f.
          let m = same_some u.d rest other f in
          ap (λ (l : List ℕ). unicode_at start at (front ++ l)) m.1 ∙ ap (unicode_at start at) (sym (all m.0)) ∙ fails m.0 ∙ ap Err (sym fault);
    }

-- four digits were read
unit_then : (start at unit : ℕ) (digits rest : List ℕ) (e : JsonFault) → at ≡ start + 2 → IsUnit digits unit → (s t : Bool) → (ltb unit 0xd800 || leb 0xe000 unit) ≡ s → leb 0xdc00 unit ≡ t
    → cond s (Ok (found unit (at + 4) rest)) (cond t (Err (Syntax start)) (pair_at start unit (at + 4) rest)) ≡ Err e → Halts (unicode_at start at) (UnicodeStop start e) (digits ++ rest) e
unfolding unicode_at
unit_then start at unit digits rest e place u true t es et h = absurd cc
unit_then start at unit digits rest e place u false true es et h =
    let p = or_parts (ltb unit 0xd800) (leb 0xe000 unit) es in
    low_half start at unit digits rest e u (leb-true 0xdc00 unit et) (omega (arith, leb-false 0xe000 unit p.1)) (λ l. rw (unit_again digits unit at l u, es, et) refl) (err_is e (Syntax start) (sym h))
unit_then start at unit digits rest e place u false false es et h =
    let p = or_parts (ltb unit 0xd800) (leb 0xe000 unit) es in
    halts_behind (unicode_at start at) (pair_at start unit (at + 4)) (UnicodeStop start e) digits rest e (λ l g. rw (unit_again digits unit at l u, es, et) g)
    (pair_halts start unit digits e u (ltb-false unit 0xd800 p.0) (leb-false 0xdc00 unit et) (at + 4) (omega arith) rest h)

unicode_halts : (start at : ℕ) (bytes : List ℕ) (e : JsonFault) → at ≡ start + 2 → unicode_at start at bytes ≡ Err e → Halts (unicode_at start at) (UnicodeStop start e) bytes e
unfolding unicode_at
unicode_halts start at bytes e place h =
    let next : ℕ × ℕ × List ℕ → Read ℕ = λ unit. cond (ltb unit.0 0xd800 || leb 0xe000 unit.0) (Ok (unit.0, unit.1, unit.2)) (cond (leb 0xdc00 unit.0) (Err (Syntax start)) (pair_at start unit.0 unit.1 unit.2)) in
    elim (bind_err (unit_at at bytes) next e h) [
      | inl f ↦
          let s = unit_halts at bytes e f in
          record {
            front = s.front;
            rest = s.rest;
            parts = s.parts;
            is = stops_here start e (92 ∷ 117 ∷ s.front) s.rest (unfinished s.front s.is.0 s.is.1) (s.is.2 ∙ ap Syntax (omega arith));
            same = λ other g. ap (λ r. r >>= next) (s.same other g);
          }
      | inr a ↦
          let u = unit_took at bytes a.0 a.1 in
          let here : next (found a.0.0 (at + 4) a.0.2) ≡ Err e = ap (λ (n : ℕ). next (found a.0.0 n a.0.2)) (sym u.place) ∙ a.2 in
          subst (λ (l : List ℕ). Halts (unicode_at start at) (UnicodeStop start e) l e) (sym u.parts)
          (unit_then start at a.0.0 u.digits a.0.2 e place u.unit (ltb a.0.0 0xd800 || leb 0xe000 a.0.0) (leb 0xdc00 a.0.0) refl refl here)
    ]

-- behind a backslash that stands at start
abbrev EscapeStop : ℕ → JsonFault → List ℕ → List ℕ → Type 0
EscapeStop start e front rest = CharacterStop start e (92 ∷ front) rest

pub begins_backslash : BeginsText (92 ∷ [])
begins_backslash = begins_character (92 ∷ []) (110 ∷ []) 10 (inr (inl (record { letter = 110; stands_for = refl; spelling_is = refl })))

escape_halts : (start at : ℕ) (bytes : List ℕ) (e : JsonFault) → at ≡ start + 1 → escape_at start at bytes ≡ Err e → Halts (escape_at start at) (EscapeStop start e) bytes e
unfolding escape_at
escape_halts start at [] e place h =
    halts_end (escape_at start at) (EscapeStop start e) e (stops_here start e (92 ∷ []) [] (inl begins_backslash) (err_is e (Syntax at) (sym h) ∙ ap Syntax (omega arith))) h
escape_halts start at (b ∷ bs) e place h = by_test (eqb b 117) refl h
  where
    by_letter : eqb b 117 ≡ false → (o : Option ℕ) → short_escape b ≡ o → digit_or (Syntax at) o (at + 1) bs ≡ Err e → Halts (escape_at start at) (EscapeStop start e) (b ∷ bs) e
    by_letter is None none g =
        let fault : e ≡ Syntax at = err_is e (Syntax at) (sym g) in
        halts_byte (escape_at start at) (EscapeStop start e) b bs e (stops_here start e (92 ∷ []) (b ∷ bs) (inl begins_backslash) (fault ∙ ap Syntax (omega arith))) (λ l. rw (is, none) (ap Err (sym fault)))
    by_letter is (Some v) some g = absurd cc

    by_test : (t : Bool) → eqb b 117 ≡ t → cond t (unicode_at start (at + 1) bs) (digit_or (Syntax at) (short_escape b) (at + 1) bs) ≡ Err e → Halts (escape_at start at) (EscapeStop start e) (b ∷ bs) e
    by_test true is g =
        let u : b ≡ 117 = eqb-true b 117 is in
        subst (λ (c : ℕ). Halts (escape_at start at) (EscapeStop start e) (c ∷ bs) e) (sym u)
        (halts_behind (escape_at start at) (unicode_at start (at + 1)) (EscapeStop start e) (117 ∷ []) bs e (λ l k. k) (unicode_halts start (at + 1) bs e (omega arith) g))
    by_test false is g = by_letter is (short_escape b) refl g

-- ---- characters

pub character_halts : (at : ℕ) (bytes : List ℕ) (e : JsonFault) → NoQuote bytes → character_at at bytes ≡ Err e → Halts (character_at at) (CharacterStop at e) bytes e
unfolding character_at
character_halts at [] e q h = halts_end (character_at at) (CharacterStop at e) e (stops_here at e [] [] (inl begins_nothing) (err_is e (Syntax at) (sym h) ∙ ap Syntax (omega arith))) h
character_halts at (b ∷ bs) e q h = by_tests (ltb b 32) (eqb b 92) (ltb b 128) refl refl refl h
  where
    by_tests : (s t u : Bool) → ltb b 32 ≡ s → eqb b 92 ≡ t → ltb b 128 ≡ u → cond s (Err (Syntax at)) (cond t (escape_at at (at + 1) bs) (cond u (Ok (found b (at + 1) bs)) (sequence_at at b (at + 1) bs))) ≡ Err e
        → Halts (character_at at) (CharacterStop at e) (b ∷ bs) e
    by_tests true t u es et eu g =
        let fault : e ≡ Syntax at = err_is e (Syntax at) (sym g) in
        halts_byte (character_at at) (CharacterStop at e) b bs e (stops_here at e [] (b ∷ bs) (inl begins_nothing) (fault ∙ ap Syntax (omega arith))) (λ l. rw es (ap Err (sym fault)))
    by_tests false true u es et eu g =
        let k : b ≡ 92 = eqb-true b 92 et in
        subst (λ (c : ℕ). Halts (character_at at) (CharacterStop at e) (c ∷ bs) e) (sym k)
        (halts_behind (character_at at) (escape_at at (at + 1)) (CharacterStop at e) (92 ∷ []) bs e (λ l f. f) (escape_halts at (at + 1) bs e refl g))
    by_tests false false true es et eu g = absurd cc
    by_tests false false false es et eu g = raw_halts (character_at at) at b bs e (ltb-false b 128 eu) (λ l. rw (es, et, eu) refl) g
