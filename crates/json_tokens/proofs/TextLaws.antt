-- Texts: what is read is spelled so, and what is spelled so is read.
use Rattle.std.proofs.Common.{◌≡◌, ◌≢◌, ℕ, zero, suc, ◌+◌, ◌-◌, ◌*◌, ◌≤◌, ◌<◌, Bool, true, false, cond, eqb, ltb, leb, ◌||◌, ◌&&◌, List, [], ◌∷◌, ◌++◌, length, Option, Some, None, Ok, Err, refl, sym, ap, subst, ◌∙◌, ◌⊎◌, inl, inr, append_assoc, length-append, arith}
use Rattle.std.specs.List.{AllByRecursion, flat_map}
use Rattle.std.specs.Char.{encode_utf8}
use Rattle.std.proofs.lemmas.Bool.{eqb-true, eqb-false, eq-eqb, ne_eqb, ltb-true, ltb-false, lt-ltb, le-ltb, leb-true, leb-false, le-leb, lt-leb, or_left, or_right, or_parts, or_cases, and_parts, cases_lt}
use Rattle.json_tokens.specs.declared.fault.JsonFault.{JsonFault}
use Rattle.json_tokens.specs.declared.fault.JsonFault.TheVariants.{Syntax}
use Rattle.json_tokens.specs.Reading.{◌>>=◌, Read, byte_at}
use Rattle.json_tokens.specs.Tables.{hex_value, short_escape}
use Rattle.json_tokens.specs.ReadingTexts.{digit_or, hex_at, unit_at, half_byte_at, half_digit_at, half_end_at, half_digits_at, second_half_at, pair_at, unicode_at, escape_at, sequence_at, character_at, unless_closed, with_character, text_at}
use Rattle.json_tokens.specs.Grammar.{IsUnit, IsRaw, IsCharacter, IsText}
use Rattle.json_tokens.proofs.Tools.{bind_ok, ok_is, some_is, byte_took, byte_other}
use Rattle.json_tokens.proofs.Utf8Laws.{sequence_took, raw_bytes, encode_one, scalar_low}

abbrev found : ℕ → ℕ → List ℕ → ℕ × ℕ × List ℕ
found c at rest = (c, at, rest)

-- ---- digits

digit_ok : (fault : JsonFault) (o : Option ℕ) (at : ℕ) (bs : List ℕ) (x : ℕ × ℕ × List ℕ) → digit_or fault o at bs ≡ Ok x → (o ≡ Some x.0) × (x.1 ≡ at) × (x.2 ≡ bs)
digit_ok fault None at bs x e = absurd cc
digit_ok fault (Some v) at bs x e = subst (λ (y : ℕ × ℕ × List ℕ). (Some v ≡ Some y.0) × (y.1 ≡ at) × (y.2 ≡ bs)) (ok_is (v, at, bs) x e) (refl, refl, refl)

abbrev DigitTook : ℕ → List ℕ → ℕ × ℕ × List ℕ → Type 0
DigitTook at bytes x = (b : ℕ) × (bytes ≡ b ∷ x.2) × (x.1 ≡ at + 1) × (hex_value b ≡ Some x.0)

hex_took : (at : ℕ) (bytes : List ℕ) (x : ℕ × ℕ × List ℕ) → hex_at at bytes ≡ Ok x → DigitTook at bytes x
hex_took at [] x e = absurd cc
hex_took at (b ∷ bs) x e = let d = digit_ok (Syntax at) (hex_value b) (at + 1) bs x e in (b, ap (λ (r : List ℕ). b ∷ r) (sym d.2), d.1, d.0)

half_digit_took : (start at : ℕ) (bytes : List ℕ) (x : ℕ × ℕ × List ℕ) → half_digit_at start at bytes ≡ Ok x → DigitTook at bytes x
half_digit_took start at [] x e = absurd cc
half_digit_took start at (b ∷ bs) x e = let d = digit_ok (Syntax start) (hex_value b) (at + 1) bs x e in (b, ap (λ (r : List ℕ). b ∷ r) (sym d.2), d.1, d.0)

half_byte_if : (t : Bool) (start wanted at b : ℕ) (bs : List ℕ) (x : ℕ × List ℕ) → eqb b wanted ≡ t → cond t (Ok (at + 1, bs)) (Err (Syntax start)) ≡ Ok x → (b ∷ bs ≡ wanted ∷ x.1) × (x.0 ≡ at + 1)
half_byte_if true start wanted at b bs x e h =
    let p : (at + 1, bs) ≡ x = ok_is (at + 1, bs) x h in
    (ap (λ (c : ℕ). c ∷ bs) (eqb-true b wanted e) ∙ ap (λ (y : ℕ × List ℕ). wanted ∷ y.1) p, ap (λ (y : ℕ × List ℕ). y.0) (sym p))
half_byte_if false start wanted at b bs x e h = absurd cc

half_byte_took : (start wanted at : ℕ) (bytes : List ℕ) (x : ℕ × List ℕ) → half_byte_at start wanted at bytes ≡ Ok x → (bytes ≡ wanted ∷ x.1) × (x.0 ≡ at + 1)
half_byte_took start wanted at [] x e = absurd cc
half_byte_took start wanted at (b ∷ bs) x e = half_byte_if (eqb b wanted) start wanted at b bs x refl e

small_if : (t : Bool) (b v w : ℕ) (o : Option ℕ) → (t ≡ true → w < 16) → (o ≡ Some v → v < 16) → cond t (Some w) o ≡ Some v → v < 16
small_if true b v w o h k e = let p : w ≡ v = some_is w v e in omega (arith, h refl)
small_if false b v w o h k e = k e

pub hex_small : (b v : ℕ) → hex_value b ≡ Some v → v < 16
hex_small b v e =
    small_if (leb 48 b && leb b 57) b v (b - 48) _ (λ t. let p = and_parts _ _ t in omega (arith, leb-true 48 b p.0, leb-true b 57 p.1)) (λ f.
    small_if (leb 97 b && leb b 102) b v (b - 87) _ (λ t. let p = and_parts _ _ t in omega (arith, leb-true 97 b p.0, leb-true b 102 p.1)) (λ g.
    small_if (leb 65 b && leb b 70) b v (b - 55) None (λ t. let p = and_parts _ _ t in omega (arith, leb-true 65 b p.0, leb-true b 70 p.1)) (λ h. absurd cc) g) f) e

-- ---- four digits

pub record UnitTook (at : ℕ) (bytes : List ℕ) (x : ℕ × ℕ × List ℕ) : Type 0 where
  pub digits : List ℕ
  pub parts : bytes ≡ digits ++ x.2
  pub place : x.1 ≡ at + 4
  pub unit : IsUnit digits x.0

pub unit_took : (at : ℕ) (bytes : List ℕ) (x : ℕ × ℕ × List ℕ) → unit_at at bytes ≡ Ok x → UnitTook at bytes x
unfolding unit_at
unit_took at bytes x e =
    let value : ℕ → ℕ → ℕ → ℕ → ℕ = λ p q r s. p * 0x1000 + q * 0x100 + r * 0x10 + s in
    let a = bind_ok (hex_at at bytes) (λ p. hex_at p.1 p.2 >>= λ q. hex_at q.1 q.2 >>= λ r. hex_at r.1 r.2 >>= λ s. Ok (found (value p.0 q.0 r.0 s.0) s.1 s.2)) x e in
    let b = bind_ok (hex_at a.0.1 a.0.2) (λ q. hex_at q.1 q.2 >>= λ r. hex_at r.1 r.2 >>= λ s. Ok (found (value a.0.0 q.0 r.0 s.0) s.1 s.2)) x a.2 in
    let c = bind_ok (hex_at b.0.1 b.0.2) (λ r. hex_at r.1 r.2 >>= λ s. Ok (found (value a.0.0 b.0.0 r.0 s.0) s.1 s.2)) x b.2 in
    let d = bind_ok (hex_at c.0.1 c.0.2) (λ s. Ok (found (value a.0.0 b.0.0 c.0.0 s.0) s.1 s.2)) x c.2 in
    let p = hex_took at bytes a.0 a.1 in
    let q = hex_took a.0.1 a.0.2 b.0 b.1 in
    let r = hex_took b.0.1 b.0.2 c.0 c.1 in
    let s = hex_took c.0.1 c.0.2 d.0 d.1 in
    subst (UnitTook at bytes) (ok_is (found (value a.0.0 b.0.0 c.0.0 d.0.0) d.0.1 d.0.2) x d.2)
    (record {
      digits = p.0 ∷ q.0 ∷ r.0 ∷ s.0 ∷ [];
      parts = p.1 ∙ ap (λ (t : List ℕ). p.0 ∷ t) (q.1 ∙ ap (λ (t : List ℕ). q.0 ∷ t) (r.1 ∙ ap (λ (t : List ℕ). r.0 ∷ t) s.1));
      place = omega (arith, p.2, q.2, r.2, s.2);
      unit = record { first = a.0.0; second = b.0.0; third = c.0.0; fourth = d.0.0; a = p.0; b = q.0; c = r.0; d = s.0; digits_are = refl; a_is = p.3; b_is = q.3; c_is = r.3; d_is = s.3; unit_is = refl };
    })

pub unit_again : (digits : List ℕ) (u at : ℕ) (rest : List ℕ) → IsUnit digits u → unit_at at (digits ++ rest) ≡ Ok (u, at + 4, rest)
unfolding unit_at
unit_again digits u at rest h =
    let bytes : digits ++ rest ≡ h.a ∷ h.b ∷ h.c ∷ h.d ∷ rest = ap (λ (t : List ℕ). t ++ rest) h.digits_are in
    ap (unit_at at) bytes ∙ rw (h.a_is, h.b_is, h.c_is, h.d_is) (ap (λ (v : ℕ × ℕ). Ok (found v.0 v.1 rest)) (pair (sym h.unit_is) (omega arith)))
  where
    pair : {a b p q : ℕ} → a ≡ p → b ≡ q → ◌≡◌ {A = ℕ × ℕ} (a, b) (p, q)
    pair s t = λ i. (s i, t i)

-- ---- the second half of a pair

pub record HalfTook (at : ℕ) (bytes : List ℕ) (x : ℕ × ℕ × List ℕ) : Type 0 where
  pub digits : List ℕ
  pub parts : bytes ≡ 92 ∷ 117 ∷ (digits ++ x.2)
  pub place : x.1 ≡ at + 6
  pub unit : IsUnit digits x.0
  pub low : (0xdc00 ≤ x.0) × (x.0 < 0xe000)

pub half_took : (start at : ℕ) (bytes : List ℕ) (x : ℕ × ℕ × List ℕ) → second_half_at start at bytes ≡ Ok x → HalfTook at bytes x
unfolding second_half_at half_digits_at half_end_at
half_took start at bytes x e =
    let a = bind_ok (half_byte_at start 92 at bytes) (λ backslash. half_byte_at start 117 backslash.0 backslash.1 >>= λ u. half_digits_at start u.0 u.1) x e in
    let b = bind_ok (half_byte_at start 117 a.0.0 a.0.1) (λ u. half_digits_at start u.0 u.1) x a.2 in
    let c = bind_ok (half_digit_at start b.0.0 b.0.1) (λ first. cond (eqb first.0 0xd) (half_digit_at start first.1 first.2) (Err (Syntax start)) >>= λ second. cond (ltb second.0 0xc) (Err (Syntax start)) (half_end_at start second.0 second.1 second.2)) x b.2 in
    let d = bind_ok (cond (eqb c.0.0 0xd) (half_digit_at start c.0.1 c.0.2) (Err (Syntax start))) (λ second. cond (ltb second.0 0xc) (Err (Syntax start)) (half_end_at start second.0 second.1 second.2)) x c.2 in
    let is_d = tested (eqb c.0.0 0xd) (half_digit_at start c.0.1 c.0.2) d.0 d.1 in
    let is_c = refused (ltb d.0.0 0xc) (half_end_at start d.0.0 d.0.1 d.0.2) x d.2 in
    let f = bind_ok (half_digit_at start d.0.1 d.0.2) (λ third. half_digit_at start third.1 third.2 >>= λ fourth. Ok (found (0xd000 + d.0.0 * 0x100 + third.0 * 0x10 + fourth.0) fourth.1 fourth.2)) x is_c.1 in
    let g = bind_ok (half_digit_at start f.0.1 f.0.2) (λ fourth. Ok (found (0xd000 + d.0.0 * 0x100 + f.0.0 * 0x10 + fourth.0) fourth.1 fourth.2)) x f.2 in
    let s = half_byte_took start 92 at bytes a.0 a.1 in
    let t = half_byte_took start 117 a.0.0 a.0.1 b.0 b.1 in
    let p = half_digit_took start b.0.0 b.0.1 c.0 c.1 in
    let q = half_digit_took start c.0.1 c.0.2 d.0 is_d.1 in
    let r = half_digit_took start d.0.1 d.0.2 f.0 f.1 in
    let w = half_digit_took start f.0.1 f.0.2 g.0 g.1 in
    let thirteen : c.0.0 ≡ 0xd = eqb-true c.0.0 0xd is_d.0 in
    let twelve : 0xc ≤ d.0.0 = ltb-false d.0.0 0xc is_c.0 in
    subst (HalfTook at bytes) (ok_is (found (0xd000 + d.0.0 * 0x100 + f.0.0 * 0x10 + g.0.0) g.0.1 g.0.2) x g.2)
    (record {
      digits = p.0 ∷ q.0 ∷ r.0 ∷ w.0 ∷ [];
      parts = s.0 ∙ ap (λ (l : List ℕ). 92 ∷ l) (t.0 ∙ ap (λ (l : List ℕ). 117 ∷ l) (p.1 ∙ ap (λ (l : List ℕ). p.0 ∷ l) (q.1 ∙ ap (λ (l : List ℕ). q.0 ∷ l) (r.1 ∙ ap (λ (l : List ℕ). r.0 ∷ l) w.1))));
      place = omega (arith, s.1, t.1, p.2, q.2, r.2, w.2);
      unit = record { first = c.0.0; second = d.0.0; third = f.0.0; fourth = g.0.0; a = p.0; b = q.0; c = r.0; d = w.0; digits_are = refl; a_is = p.3; b_is = q.3; c_is = r.3; d_is = w.3; unit_is = omega arith };
      low = (omega arith, omega (arith, hex_small q.0 d.0.0 q.3, hex_small r.0 f.0.0 r.3, hex_small w.0 g.0.0 w.3));
    })
  where
    tested : (t : Bool) (r : Read ℕ) (y : ℕ × ℕ × List ℕ) → cond t r (Err (Syntax start)) ≡ Ok y → (t ≡ true) × (r ≡ Ok y)
    tested true r y h = (refl, h)
    tested false r y h = absurd cc

    refused : (t : Bool) (r : Read ℕ) (y : ℕ × ℕ × List ℕ) → cond t (Err (Syntax start)) r ≡ Ok y → (t ≡ false) × (r ≡ Ok y)
    refused true r y h = absurd cc
    refused false r y h = (refl, h)

pub half_again : (start at : ℕ) (digits : List ℕ) (u : ℕ) (rest : List ℕ) → IsUnit digits u → 0xdc00 ≤ u → u < 0xe000 → second_half_at start at (92 ∷ 117 ∷ (digits ++ rest)) ≡ Ok (u, at + 6, rest)
unfolding second_half_at half_digits_at half_end_at
half_again start at digits u rest h low high =
    let bytes : digits ++ rest ≡ h.a ∷ h.b ∷ h.c ∷ h.d ∷ rest = ap (λ (t : List ℕ). t ++ rest) h.digits_are in
    let s1 = hex_small h.a h.first h.a_is in
    let s2 = hex_small h.b h.second h.b_is in
    let s3 = hex_small h.c h.third h.c_is in
    let s4 = hex_small h.d h.fourth h.d_is in
    let thirteen : h.first ≡ 0xd = omega (arith, h.unit_is) in
    let twelve : 0xc ≤ h.second = omega (arith, h.unit_is) in
    let value : 0xd000 + h.second * 0x100 + h.third * 0x10 + h.fourth ≡ u = omega (arith, h.unit_is) in
    ap (λ (l : List ℕ). second_half_at start at (92 ∷ 117 ∷ l)) bytes
    ∙ rw (h.a_is, eq-eqb h.first 0xd thirteen, h.b_is, le-ltb h.second 0xc twelve, h.c_is, h.d_is) (ap (λ (v : ℕ × ℕ). Ok (found v.0 v.1 rest)) (pair value (omega arith)))
  where
    pair : {a b p q : ℕ} → a ≡ p → b ≡ q → ◌≡◌ {A = ℕ × ℕ} (a, b) (p, q)
    pair s t = λ i. (s i, t i)

-- ---- characters

-- a character behind some bytes that were read before
pub record CharacterTook (before : List ℕ) (at : ℕ) (bytes : List ℕ) (x : ℕ × ℕ × List ℕ) : Type 0 where
  pub spelling : List ℕ
  pub parts : bytes ≡ spelling ++ x.2
  pub place : x.1 ≡ at + length spelling
  pub is : IsCharacter (before ++ spelling, x.0)

pub length_unit : (digits : List ℕ) (u : ℕ) → IsUnit digits u → length digits ≡ 4
length_unit digits u h = ap length h.digits_are ∙ omega arith

pair_took : (start high at : ℕ) (digits bytes : List ℕ) (x : ℕ × ℕ × List ℕ) → IsUnit digits high → 0xd800 ≤ high → high < 0xdc00 → pair_at start high (at + 4) bytes ≡ Ok x → CharacterTook (92 ∷ 117 ∷ []) at (digits ++ bytes) x
unfolding pair_at
pair_took start high at digits bytes x u low lt e =
    let a = bind_ok (second_half_at start (at + 4) bytes) (λ second. Ok (found (0x10000 + (high - 0xd800) * 0x400 + (second.0 - 0xdc00)) second.1 second.2)) x e in
    let h = half_took start (at + 4) bytes a.0 a.1 in
    subst (CharacterTook (92 ∷ 117 ∷ []) at (digits ++ bytes)) (ok_is (found (0x10000 + (high - 0xd800) * 0x400 + (a.0.0 - 0xdc00)) a.0.1 a.0.2) x a.2)
    (record {
      spelling = digits ++ 92 ∷ 117 ∷ h.digits;
      parts = ap (λ (l : List ℕ). digits ++ l) h.parts ∙ sym (append_assoc digits (92 ∷ 117 ∷ h.digits) a.0.2);
      place = omega (arith, h.place, length-append digits (92 ∷ 117 ∷ h.digits), length_unit digits high u, length_unit h.digits a.0.0 h.unit);
      is = inr (inr (inr (record { high = high; low = a.0.0; high_digits = digits; low_digits = h.digits; high_code = u; low_code = h.unit; is_high = (low, lt); is_low = h.low; spelling_is = refl; character = refl })));
    })

unicode_if : (s t : Bool) (start at u : ℕ) (digits rest : List ℕ) (x : ℕ × ℕ × List ℕ) → (ltb u 0xd800 || leb 0xe000 u) ≡ s → leb 0xdc00 u ≡ t → IsUnit digits u
    → cond s (Ok (u, at + 4, rest)) (cond t (Err (Syntax start)) (pair_at start u (at + 4) rest)) ≡ Ok x → CharacterTook (92 ∷ 117 ∷ []) at (digits ++ rest) x
unicode_if true t start at u digits rest x es et h e =
    let no_half : (u < 0xd800) ⊎ (0xe000 ≤ u) = elim (or_cases _ _ es) [ inl p ↦ inl (ltb-true u 0xd800 p) | inr p ↦ inr (leb-true 0xe000 u p) ] in
    subst (CharacterTook (92 ∷ 117 ∷ []) at (digits ++ rest)) (ok_is (found u (at + 4) rest) x e)
    (record { spelling = digits; parts = refl; place = omega (arith, length_unit digits u h); is = inr (inr (inl (record { digits = digits; code = h; no_half = no_half; spelling_is = refl }))) })
unicode_if false true start at u digits rest x es et h e = absurd cc
unicode_if false false start at u digits rest x es et h e =
    let p = or_parts _ _ es in
    pair_took start u at digits rest x h (ltb-false u 0xd800 p.0) (leb-false 0xdc00 u et) e

unicode_took : (start at : ℕ) (bytes : List ℕ) (x : ℕ × ℕ × List ℕ) → unicode_at start at bytes ≡ Ok x → CharacterTook (92 ∷ 117 ∷ []) at bytes x
unfolding unicode_at
unicode_took start at bytes x e =
    let a = bind_ok (unit_at at bytes) (λ unit. cond (ltb unit.0 0xd800 || leb 0xe000 unit.0) (Ok (unit.0, unit.1, unit.2)) (cond (leb 0xdc00 unit.0) (Err (Syntax start)) (pair_at start unit.0 unit.1 unit.2))) x e in
    let u = unit_took at bytes a.0 a.1 in
    let here : cond (ltb a.0.0 0xd800 || leb 0xe000 a.0.0) (Ok (a.0.0, at + 4, a.0.2)) (cond (leb 0xdc00 a.0.0) (Err (Syntax start)) (pair_at start a.0.0 (at + 4) a.0.2)) ≡ Ok x =
    ap (λ (n : ℕ). cond (ltb a.0.0 0xd800 || leb 0xe000 a.0.0) (Ok (a.0.0, n, a.0.2)) (cond (leb 0xdc00 a.0.0) (Err (Syntax start)) (pair_at start a.0.0 n a.0.2))) (sym u.place) ∙ a.2 in
    rw u.parts (unicode_if (ltb a.0.0 0xd800 || leb 0xe000 a.0.0) (leb 0xdc00 a.0.0) start at a.0.0 u.digits a.0.2 x refl refl u.unit here)

escape_if : (t : Bool) (start at b : ℕ) (bs : List ℕ) (x : ℕ × ℕ × List ℕ) → eqb b 117 ≡ t → cond t (unicode_at start (at + 1) bs) (digit_or (Syntax at) (short_escape b) (at + 1) bs) ≡ Ok x → CharacterTook (92 ∷ []) at (b ∷ bs) x
escape_if true start at b bs x e h =
    let c = unicode_took start (at + 1) bs x h in
    let u = eqb-true b 117 e in
    record { spelling = 117 ∷ c.spelling; parts = ap (λ (d : ℕ). d ∷ bs) u ∙ ap (λ (l : List ℕ). 117 ∷ l) c.parts; place = omega (arith, c.place); is = c.is }
escape_if false start at b bs x e h =
    let d = digit_ok (Syntax at) (short_escape b) (at + 1) bs x h in
    record { spelling = b ∷ []; parts = ap (λ (l : List ℕ). b ∷ l) (sym d.2); place = omega (arith, d.1); is = inr (inl (record { letter = b; stands_for = d.0; spelling_is = refl })) }

escape_took : (start at : ℕ) (bytes : List ℕ) (x : ℕ × ℕ × List ℕ) → escape_at start at bytes ≡ Ok x → CharacterTook (92 ∷ []) at bytes x
unfolding escape_at
escape_took start at [] x e = absurd cc
escape_took start at (b ∷ bs) x e = escape_if (eqb b 117) start at b bs x refl e

pub raw_one : (b : ℕ) → b < 128 → 32 ≤ b → b ≢ 34 → b ≢ 92 → IsRaw (b ∷ []) b
raw_one b lt low q s = record { scalar = scalar_low b (omega arith); no_control = low; no_quote = q; no_backslash = s; spelling_is = sym (encode_one b lt) }

character_if : (s t u : Bool) (at b : ℕ) (bs : List ℕ) (x : ℕ × ℕ × List ℕ) → b ≢ 34 → ltb b 32 ≡ s → eqb b 92 ≡ t → ltb b 128 ≡ u
    → cond s (Err (Syntax at)) (cond t (escape_at at (at + 1) bs) (cond u (Ok (b, at + 1, bs)) (sequence_at at b (at + 1) bs))) ≡ Ok x → CharacterTook [] at (b ∷ bs) x
character_if true t u at b bs x q es et eu e = absurd cc
character_if false true u at b bs x q es et eu e =
    let c = escape_took at (at + 1) bs x e in
    let k = eqb-true b 92 et in
    record { spelling = 92 ∷ c.spelling; parts = ap (λ (d : ℕ). d ∷ bs) k ∙ ap (λ (l : List ℕ). 92 ∷ l) c.parts; place = omega (arith, c.place); is = c.is }
character_if false false true at b bs x q es et eu e =
    subst (CharacterTook [] at (b ∷ bs)) (ok_is (found b (at + 1) bs) x e)
    (record { spelling = b ∷ []; parts = refl; place = omega arith; is = inl (raw_one b (ltb-true b 128 eu) (ltb-false b 32 es) q (eqb-false b 92 et)) })
character_if false false false at b bs x q es et eu e =
    let r = sequence_took at b (at + 1) bs x e in
    record {
      spelling = b ∷ r.tail;
      parts = ap (λ (l : List ℕ). b ∷ l) r.parts;
      place = omega (arith, r.place);
      is = inl (record { scalar = r.scalar; no_control = omega (arith, r.above); no_quote = λ f. omega (arith, r.above); no_backslash = λ f. omega (arith, r.above); spelling_is = r.utf8 });
    }

-- no quote stands at the front
abbrev pub NoQuote : List ℕ → Type 0
NoQuote [] = Unit {0}
NoQuote (b ∷ bs) = b ≢ 34

pub character_took : (at : ℕ) (bytes : List ℕ) (x : ℕ × ℕ × List ℕ) → NoQuote bytes → character_at at bytes ≡ Ok x → CharacterTook [] at bytes x
unfolding character_at
character_took at [] x q e = absurd cc
character_took at (b ∷ bs) x q e = character_if (ltb b 32) (eqb b 92) (ltb b 128) at b bs x q refl refl refl e

-- ---- texts

none_if : (t : Bool) (at b : ℕ) (bs : List ℕ) → eqb b 34 ≡ t → ◌≡◌ {A = Option (ℕ × List ℕ)} (cond t (Some (at + 1, bs)) None) None → b ≢ 34
none_if true at b bs e h = absurd cc
none_if false at b bs e h = eqb-false b 34 e

pub no_quote : (at : ℕ) (bytes : List ℕ) → byte_at 34 at bytes ≡ None → NoQuote bytes
no_quote at [] e = tt
no_quote at (b ∷ bs) e = none_if (eqb b 34) at b bs refl e

pub record TextTook (at : ℕ) (bytes : List ℕ) (x : List ℕ × ℕ × List ℕ) : Type 0 where
  pub body : List ℕ
  pub parts : bytes ≡ body ++ 34 ∷ x.2
  pub place : x.1 ≡ at + length body + 1
  pub is : IsText body x.0

text_closed : (at : ℕ) (bytes : List ℕ) (after : ℕ × List ℕ) (x : List ℕ × ℕ × List ℕ) → byte_at 34 at bytes ≡ Some after → ◌≡◌ {A = Read (List ℕ)} (Ok ([], after.0, after.1)) (Ok x) → TextTook at bytes x
text_closed at bytes after x e h =
    let b = byte_took 34 at bytes after e in
    subst (TextTook at bytes) (ok_is ([], after.0, after.1) x h)
    (record { body = []; parts = b.0; place = omega (arith, b.1); is = record { characters = []; each = tt; body_is = refl; text_is = refl } })

text_more : (at : ℕ) (bytes : List ℕ) (c : ℕ × ℕ × List ℕ) (s x : List ℕ × ℕ × List ℕ) → CharacterTook [] at bytes c → TextTook c.1 c.2 s → ◌≡◌ {A = Read (List ℕ)} (Ok (encode_utf8 c.0 ++ s.0, s.1, s.2)) (Ok x) → TextTook at bytes x
text_more at bytes c s x h t e =
    subst (TextTook at bytes) (ok_is (encode_utf8 c.0 ++ s.0, s.1, s.2) x e)
    (record {
      body = h.spelling ++ t.body;
      parts = h.parts ∙ ap (λ (l : List ℕ). h.spelling ++ l) t.parts ∙ sym (append_assoc h.spelling t.body (34 ∷ s.2));
      place = omega (arith, h.place, t.place, length-append h.spelling t.body);
      is = record {
        characters = (h.spelling, c.0) ∷ t.is.characters;
        each = (h.is, t.is.each);
        body_is = ap (λ (l : List ℕ). h.spelling ++ l) t.is.body_is;
        text_is = ap (λ (l : List ℕ). encode_utf8 c.0 ++ l) t.is.text_is;
      };
    })

pub text_took : (most at : ℕ) (bytes : List ℕ) (x : List ℕ × ℕ × List ℕ) → text_at most at bytes ≡ Ok x → TextTook at bytes x
unfolding text_at
text_took zero at bytes x e = absurd cc
text_took (suc most) at bytes x e = by_quote (byte_at 34 at bytes) refl e (λ c s h. text_took most c.1 c.2 s h)
  where
    by_quote : (o : Option (ℕ × List ℕ)) → byte_at 34 at bytes ≡ o → unless_closed o (character_at at bytes >>= λ c. with_character c.0 (text_at most c.1 c.2)) ≡ Ok x
        → ((c : ℕ × ℕ × List ℕ) (s : List ℕ × ℕ × List ℕ) → text_at most c.1 c.2 ≡ Ok s → TextTook c.1 c.2 s) → TextTook at bytes x
    by_quote (Some after) is h rec = text_closed at bytes after x is h
    by_quote None is h rec =
        let a = bind_ok (character_at at bytes) (λ c. with_character c.0 (text_at most c.1 c.2)) x h in
        let b = bind_ok (text_at most a.0.1 a.0.2) (λ s. Ok (encode_utf8 a.0.0 ++ s.0, s.1, s.2)) x a.2 in
        text_more at bytes a.0 b.0 x (character_took at bytes a.0 (no_quote at bytes is) a.1) (rec a.0 b.0 b.1) b.2

-- ---- and again

abbrev pub CharacterAgain : List ℕ → ℕ → Type 0
CharacterAgain spelling c = (0 < length spelling) × ((at : ℕ) (rest : List ℕ) → (byte_at 34 at (spelling ++ rest) ≡ None) × (character_at at (spelling ++ rest) ≡ Ok (c, at + length spelling, rest)))

backslash_again : (spelling : List ℕ) (c at : ℕ) (rest : List ℕ) → escape_at at (at + 1) (spelling ++ rest) ≡ Ok (c, at + 1 + length spelling, rest)
    → (byte_at 34 at (92 ∷ (spelling ++ rest)) ≡ None) × (character_at at (92 ∷ (spelling ++ rest)) ≡ Ok (c, at + suc (length spelling), rest))
unfolding character_at
backslash_again spelling c at rest e = (refl, e ∙ ap (λ (n : ℕ). Ok (c, n, rest)) (omega arith))

short_again : (letter c at : ℕ) (rest : List ℕ) → short_escape letter ≡ Some c → escape_at at (at + 1) (letter ∷ rest) ≡ Ok (c, at + 1 + 1, rest)
unfolding escape_at
short_again letter c at rest e = rw (ne_eqb letter 117 (no_u letter e), e) refl
  where
    no_u : (b : ℕ) → short_escape b ≡ Some c → b ≡ 117 → ⊥
    no_u b h q = absurd (clash (ap short_escape (sym q) ∙ h))
      where
        clash : ◌≡◌ {A = Option ℕ} None (Some c) → ⊥
        clash p = cc

code_again : (digits : List ℕ) (u at : ℕ) (rest : List ℕ) → IsUnit digits u → (u < 0xd800) ⊎ (0xe000 ≤ u) → unicode_at at (at + 1 + 1) (digits ++ rest) ≡ Ok (u, at + 1 + 1 + 4, rest)
unfolding unicode_at
code_again digits u at rest h no_half =
    let t : (ltb u 0xd800 || leb 0xe000 u) ≡ true = elim no_half [ inl p ↦ or_left _ _ (lt-ltb u 0xd800 p) | inr p ↦ or_right _ _ (le-leb 0xe000 u p) ] in
    rw (unit_again digits u (at + 1 + 1) rest h, t) refl

pair_again : (high low c : ℕ) (highs lows : List ℕ) (at : ℕ) (rest : List ℕ) → IsUnit highs high → IsUnit lows low → (0xd800 ≤ high) × (high < 0xdc00) → (0xdc00 ≤ low) × (low < 0xe000) → c ≡ 0x10000 + (high - 0xd800) * 0x400 + (low - 0xdc00)
    → unicode_at at (at + 1 + 1) (highs ++ 92 ∷ 117 ∷ (lows ++ rest)) ≡ Ok (c, at + 1 + 1 + 4 + 6, rest)
unfolding unicode_at pair_at
pair_again high low c highs lows at rest h l is_high is_low e =
    rw (unit_again highs high (at + 1 + 1) (92 ∷ 117 ∷ (lows ++ rest)) h, le-ltb high 0xd800 is_high.0, lt-leb 0xe000 high (omega (arith, is_high.1)), lt-leb 0xdc00 high is_high.1, half_again at (at + 1 + 1 + 4) lows low rest l is_low.0 is_low.1)
    (ap (λ (v : ℕ). Ok (found v (at + 1 + 1 + 4 + 6) rest)) (sym e))

u_again : (spelling : List ℕ) (c at : ℕ) (rest : List ℕ) → unicode_at at (at + 1 + 1) (spelling ++ rest) ≡ Ok (c, at + 1 + 1 + length spelling, rest) → escape_at at (at + 1) (117 ∷ (spelling ++ rest)) ≡ Ok (c, at + 1 + suc (length spelling), rest)
unfolding escape_at
u_again spelling c at rest e = e ∙ ap (λ (n : ℕ). Ok (c, n, rest)) (omega arith)

raw_again : (spelling : List ℕ) (c : ℕ) → IsRaw spelling c → CharacterAgain spelling c
unfolding character_at
raw_again spelling c r =
    elim (cases_lt c 128) [
      | inl lt ↦
          let one : spelling ≡ c ∷ [] = r.spelling_is ∙ encode_one c lt in
          subst (λ (s : List ℕ). CharacterAgain s c) (sym one)
          (omega arith, λ at rest. (byte_other 34 at c rest r.no_quote, rw (le-ltb c 32 r.no_control, ne_eqb c 92 r.no_backslash, lt-ltb c 128 lt) refl))
      | inr le ↦
          let b = raw_bytes c le r.scalar in
          let many : spelling ≡ b.first ∷ b.tail = r.spelling_is ∙ b.utf8 in
          subst (λ (s : List ℕ). CharacterAgain s c) (sym many) (
            omega arith,
            λ at rest. (
              byte_other 34 at b.first (b.tail ++ rest) (λ f. omega (arith, b.above)),
              rw (le-ltb b.first 32 (omega (arith, b.above)), ne_eqb b.first 92 (λ f. omega (arith, b.above)), le-ltb b.first 128 b.above, b.again at (at + 1) rest) (ap (λ (n : ℕ). Ok (c, n, rest)) (omega arith)),
            ),
          )
    ]

pub character_again : (x : List ℕ × ℕ) → IsCharacter x → CharacterAgain x.0 x.1
character_again x (inl r) = raw_again x.0 x.1 r
character_again x (inr (inl s)) =
    subst (λ (l : List ℕ). CharacterAgain l x.1) (sym s.spelling_is)
    (omega arith, λ at rest. backslash_again (s.letter ∷ []) x.1 at rest (short_again s.letter x.1 at rest s.stands_for))
character_again x (inr (inr (inl s))) =
    subst (λ (l : List ℕ). CharacterAgain l x.1) (sym s.spelling_is) (
      omega arith,
      λ at rest. backslash_again (117 ∷ s.digits) x.1 at rest
          (u_again s.digits x.1 at rest (code_again s.digits x.1 at rest s.code s.no_half ∙ ap (λ (n : ℕ). Ok (x.1, n, rest)) (omega (arith, length_unit s.digits x.1 s.code)))),
    )
character_again x (inr (inr (inr s))) =
    let highs = s.high_digits in
    let lows = s.low_digits in
    subst (λ (l : List ℕ). CharacterAgain l x.1) (sym s.spelling_is) (
      omega arith,
      λ at rest. backslash_again (117 ∷ (highs ++ 92 ∷ 117 ∷ lows)) x.1 at rest
          (u_again (highs ++ 92 ∷ 117 ∷ lows) x.1 at rest
          (ap (unicode_at at (at + 1 + 1)) (append_assoc highs (92 ∷ 117 ∷ lows) rest)
          ∙ pair_again s.high s.low x.1 highs lows at rest s.high_code s.low_code s.is_high s.is_low s.character
          ∙ ap (λ (n : ℕ). Ok (x.1, n, rest)) (omega (arith, length-append highs (92 ∷ 117 ∷ lows), length_unit highs s.high s.high_code, length_unit lows s.low s.low_code)))),
    )

abbrev bodies : List (List ℕ × ℕ) → List ℕ
bodies cs = flat_map (λ x. x.0) cs

abbrev texts : List (List ℕ × ℕ) → List ℕ
texts cs = flat_map (λ x. encode_utf8 x.1) cs

few_characters : (cs : List (List ℕ × ℕ)) → AllByRecursion IsCharacter cs → length cs ≤ length (bodies cs)
few_characters [] h = omega arith
few_characters (c ∷ cs) h = omega (arith, few_characters cs h.1, (character_again c h.0).0, length-append c.0 (bodies cs))

characters_again : (cs : List (List ℕ × ℕ)) (most at : ℕ) (rest : List ℕ) → AllByRecursion IsCharacter cs → length cs < most → text_at most at (bodies cs ++ 34 ∷ rest) ≡ Ok (texts cs, at + length (bodies cs) + 1, rest)
unfolding text_at
characters_again [] zero at rest h lt = absurd (omega arith)
characters_again [] (suc most) at rest h lt = ap (λ (n : ℕ). Ok ([], n, rest)) (omega arith)
characters_again (c ∷ cs) zero at rest h lt = absurd (omega arith)
characters_again (c ∷ cs) (suc most) at rest h lt =
    let one = (character_again c h.0).1 at (bodies cs ++ 34 ∷ rest) in
    ap (text_at (suc most) at) (append_assoc c.0 (bodies cs) (34 ∷ rest))
    ∙ rw (one.0, one.1, characters_again cs most (at + length c.0) rest h.1 (omega arith)) (ap (λ (n : ℕ). Ok (encode_utf8 c.1 ++ texts cs, n, rest)) (omega (arith, length-append c.0 (bodies cs))))

pub text_again : (body s : List ℕ) (most at : ℕ) (rest : List ℕ) → IsText body s → length body < most → text_at most at (body ++ 34 ∷ rest) ≡ Ok (s, at + length body + 1, rest)
text_again body s most at rest h lt =
    let few = few_characters h.characters h.each in
    rw (h.body_is, h.text_is) (characters_again h.characters most at rest h.each (omega (arith, few, ap length h.body_is)))
