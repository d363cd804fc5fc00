-- Raw characters: what is read of them is their UTF-8, and their UTF-8 is read as them.
use Rattle.std.proofs.Common.{◌≡◌, ℕ, ◌+◌, ◌-◌, ◌*◌, ◌/◌, ◌%◌, ◌≤◌, ◌<◌, Bool, true, false, cond, eqb, ltb, ◌||◌, List, [], ◌∷◌, ◌++◌, length, Option, Some, None, Ok, Err, refl, sym, ap, subst, ◌∙◌, ◌⊎◌, inl, inr, arith}
use Rattle.std.specs.Char.{IsScalar, encode_utf8}
use Rattle.std.proofs.lemmas.Bool.{eqb-true, eq-eqb, ne_eqb, ltb-true, ltb-false, lt-ltb, le-ltb, le-leb, or_parts, cond_both, cases_lt, cases_eq}
use lib.Utf8.{scalar_cases}
use Rattle.json_tokens.specs.declared.fault.JsonFault.TheVariants.{NotUtf8}
use Rattle.json_tokens.specs.declared.characters.Lead.{Lead}
use Rattle.json_tokens.specs.declared.characters.Lead.TheVariants.{Two, Three, Four}
use Rattle.json_tokens.specs.Reading.{◌>>=◌}
use Rattle.json_tokens.specs.ReadingTexts.{lead, continuation_at, two_at, three_at, four_at, with_lead, sequence_at}
use Rattle.json_tokens.proofs.Tools.{bind_ok, ok_is}

-- ---- the first byte

abbrev pub LeadIs : ℕ → Option Lead → Type 0
LeadIs b None = Unit {0}
LeadIs b (Some Two) = (0xc2 ≤ b) × (b < 0xe0)
LeadIs b (Some (Three low high)) = (0xe0 ≤ b) × (b < 0xf0) × (0x80 ≤ low) × (high ≤ 0xbf) × (b ≡ 0xe0 → 0xa0 ≤ low) × (b ≡ 0xed → high ≤ 0x9f)
LeadIs b (Some (Four low high)) = (0xf0 ≤ b) × (b < 0xf5) × (0x80 ≤ low) × (high ≤ 0xbf) × (b ≡ 0xf0 → 0x90 ≤ low) × (b ≡ 0xf4 → high ≤ 0x8f)

pub lead_is : (b : ℕ) → LeadIs b (lead b)
lead_is b =
    cond_both (ltb b 0xc2) _ _ (LeadIs b) (λ _. tt) (λ e1.
    cond_both (ltb b 0xe0) _ _ (LeadIs b) (λ e. (ltb-false _ _ e1, ltb-true _ _ e)) (λ e2.
    cond_both (eqb b 0xe0) _ _ (LeadIs b) (λ e. let f = eqb-true b 0xe0 e in (omega arith, omega arith, omega arith, omega arith, λ _. omega arith, λ g. omega arith)) (λ e3.
    cond_both (eqb b 0xed) _ _ (LeadIs b) (λ e. let f = eqb-true b 0xed e in (omega arith, omega arith, omega arith, omega arith, λ g. omega arith, λ g. omega arith)) (λ e4.
    cond_both (ltb b 0xf0) _ _ (LeadIs b) (λ e. (ltb-false _ _ e2, ltb-true _ _ e, omega arith, omega arith, λ g. absurd (ne e3 g), λ g. absurd (ne e4 g))) (λ e5.
    cond_both (eqb b 0xf0) _ _ (LeadIs b) (λ e. let f = eqb-true b 0xf0 e in (omega arith, omega arith, omega arith, omega arith, λ g. omega arith, λ g. omega arith)) (λ e6.
    cond_both (ltb b 0xf4) _ _ (LeadIs b) (λ e. let f = ltb-true b 0xf4 e in (ltb-false _ _ e5, omega arith, omega arith, omega arith, λ g. absurd (ne e6 g), λ g. omega arith)) (λ e7.
    cond_both (eqb b 0xf4) _ _ (LeadIs b) (λ e. let f = eqb-true b 0xf4 e in (omega arith, omega arith, omega arith, omega arith, λ g. omega arith, λ g. omega arith)) (λ _. tt))))))))
  where
    ne : {c d : ℕ} → eqb c d ≡ false → c ≡ d → ⊥
    ne {c} {d} e g = absurd (both (eqb c d) e (eq-eqb c d g))
      where
        both : (t : Bool) → t ≡ false → t ≡ true → ⊥
        both t p q = cc

pub lead_two : (b : ℕ) → 0xc2 ≤ b → b < 0xe0 → lead b ≡ Some Two
lead_two b low high = rw (le-ltb b 0xc2 low, lt-ltb b 0xe0 high) refl

-- what the first byte allows, the second byte has
abbrev Allows : (ℕ → ℕ → Lead) → ℕ → ℕ → Type 0
Allows kind b s = (low high : ℕ) × (lead b ≡ Some (kind low high)) × (low ≤ s) × (s ≤ high)

lead_three : (b s : ℕ) → 0xe0 ≤ b → b < 0xf0 → 0x80 ≤ s → s ≤ 0xbf → (b ≡ 0xe0 → 0xa0 ≤ s) → (b ≡ 0xed → s ≤ 0x9f) → Allows Three b s
lead_three b s l h sl sh first last =
    elim (cases_eq b 0xe0) [
      | inl e ↦ (0xa0, 0xbf, ap lead e, first e, sh)
      | inr ne ↦ elim (cases_eq b 0xed) [
        | inl e ↦ (0x80, 0x9f, ap lead e, sl, last e)
        | inr nf ↦ (0x80, 0xbf, rw (le-ltb b 0xc2 (omega arith), le-ltb b 0xe0 l, ne_eqb b 0xe0 ne, ne_eqb b 0xed nf, lt-ltb b 0xf0 h) refl, sl, sh)
      ]
    ]

lead_four : (b s : ℕ) → 0xf0 ≤ b → b < 0xf5 → 0x80 ≤ s → s ≤ 0xbf → (b ≡ 0xf0 → 0x90 ≤ s) → (b ≡ 0xf4 → s ≤ 0x8f) → Allows Four b s
lead_four b s l h sl sh first last =
    elim (cases_eq b 0xf0) [
      | inl e ↦ (0x90, 0xbf, ap lead e, first e, sh)
      | inr ne ↦ elim (cases_eq b 0xf4) [
        | inl e ↦ (0x80, 0x8f, ap lead e, sl, last e)
        | inr nf ↦ (0x80, 0xbf, rw (le-ltb b 0xc2 (omega arith), le-ltb b 0xe0 (omega arith), ne_eqb b 0xe0 (λ e. omega arith), ne_eqb b 0xed (λ e. omega arith), le-ltb b 0xf0 l, ne_eqb b 0xf0 ne, lt-ltb b 0xf4 (omega arith)) refl, sl, sh)
      ]
    ]

-- ---- the other bytes

continuation_if : (t : Bool) (start low high at b : ℕ) (bs : List ℕ) (x : ℕ × ℕ × List ℕ) → (ltb b low || ltb high b) ≡ t → cond t (Err (NotUtf8 start)) (Ok (b, at + 1, bs)) ≡ Ok x
    → (b ∷ bs ≡ x.0 ∷ x.2) × (x.1 ≡ at + 1) × (low ≤ x.0) × (x.0 ≤ high)
continuation_if true start low high at b bs x e h = absurd cc
continuation_if false start low high at b bs x e h =
    let p : (b, at + 1, bs) ≡ x = ok_is (b, at + 1, bs) x h in
    let t = or_parts _ _ e in
    subst (λ (y : ℕ × ℕ × List ℕ). (b ∷ bs ≡ y.0 ∷ y.2) × (y.1 ≡ at + 1) × (low ≤ y.0) × (y.0 ≤ high)) p (refl, refl, ltb-false b low t.0, ltb-false high b t.1)

continuation_took : (start low high at : ℕ) (bytes : List ℕ) (x : ℕ × ℕ × List ℕ) → continuation_at start low high at bytes ≡ Ok x → (bytes ≡ x.0 ∷ x.2) × (x.1 ≡ at + 1) × (low ≤ x.0) × (x.0 ≤ high)
continuation_took start low high at [] x e = absurd cc
continuation_took start low high at (b ∷ bs) x e = continuation_if (ltb b low || ltb high b) start low high at b bs x refl e

pub continuation_again : (start low high at b : ℕ) (bs : List ℕ) → low ≤ b → b ≤ high → continuation_at start low high at (b ∷ bs) ≡ Ok (b, at + 1, bs)
continuation_again start low high at b bs l h = rw (le-ltb b low l, le-ltb high b h) refl

-- ---- a character and its bytes

list2 : {a b c d : ℕ} → a ≡ c → b ≡ d → a ∷ b ∷ [] ≡ c ∷ d ∷ []
list2 p q = λ i. p i ∷ q i ∷ []

list3 : {a b c x y z : ℕ} → a ≡ x → b ≡ y → c ≡ z → a ∷ b ∷ c ∷ [] ≡ x ∷ y ∷ z ∷ []
list3 p q r = λ i. p i ∷ q i ∷ r i ∷ []

list4 : {a b c d x y z w : ℕ} → a ≡ x → b ≡ y → c ≡ z → d ≡ w → a ∷ b ∷ c ∷ d ∷ [] ≡ x ∷ y ∷ z ∷ w ∷ []
list4 p q r s = λ i. p i ∷ q i ∷ r i ∷ s i ∷ []

pub encode_one : (c : ℕ) → c < 128 → encode_utf8 c ≡ c ∷ []
unfolding encode_utf8
encode_one c lt = rw (lt-ltb c 128 lt) refl

pub encode_two : (c a b : ℕ) → 128 ≤ c → c < 2048 → a ≡ 192 + c / 64 → b ≡ 128 + c % 64 → encode_utf8 c ≡ a ∷ b ∷ []
unfolding encode_utf8
encode_two c a b l h p q = rw (le-ltb c 128 l, lt-ltb c 2048 h) (list2 (sym p) (sym q))

pub encode_three : (c x y z : ℕ) → 2048 ≤ c → c < 65536 → x ≡ 224 + c / 4096 → y ≡ 128 + c / 64 % 64 → z ≡ 128 + c % 64 → encode_utf8 c ≡ x ∷ y ∷ z ∷ []
unfolding encode_utf8
encode_three c x y z l h p q r = rw (le-ltb c 128 (omega arith), le-ltb c 2048 l, lt-ltb c 65536 h) (list3 (sym p) (sym q) (sym r))

pub encode_four : (c x y z w : ℕ) → 65536 ≤ c → x ≡ 240 + c / 262144 → y ≡ 128 + c / 4096 % 64 → z ≡ 128 + c / 64 % 64 → w ≡ 128 + c % 64 → encode_utf8 c ≡ x ∷ y ∷ z ∷ w ∷ []
unfolding encode_utf8
encode_four c x y z w l p q r s = rw (le-ltb c 128 (omega arith), le-ltb c 2048 (omega arith), le-ltb c 65536 l) (list4 (sym p) (sym q) (sym r) (sym s))

pub scalar_low : (c : ℕ) → c < 55296 → IsScalar c
scalar_low c lt = rw (lt-ltb c 55296 lt) refl

scalar_high : (c : ℕ) → 57344 ≤ c → c < 1114112 → IsScalar c
scalar_high c l h = rw (le-ltb c 55296 (omega arith), le-leb 57344 c l, lt-ltb c 1114112 h) refl

-- what was read of a raw character behind its first byte
pub record RawTook (first at : ℕ) (bytes : List ℕ) (x : ℕ × ℕ × List ℕ) : Type 0 where
  pub tail : List ℕ
  pub parts : bytes ≡ tail ++ x.2
  pub place : x.1 ≡ at + length tail
  pub utf8 : first ∷ tail ≡ encode_utf8 x.0
  pub scalar : IsScalar x.0
  pub above : 128 ≤ x.0

abbrev found : ℕ → ℕ → List ℕ → ℕ × ℕ × List ℕ
found c at rest = (c, at, rest)

two_took : (start first at : ℕ) (bytes : List ℕ) (x : ℕ × ℕ × List ℕ) → 0xc2 ≤ first → first < 0xe0 → two_at start first at bytes ≡ Ok x → RawTook first at bytes x
unfolding two_at
two_took start first at bytes x l h e =
    let a = bind_ok (continuation_at start 0x80 0xbf at bytes) (λ second. Ok (found ((first - 0xc0) * 0x40 + (second.0 - 0x80)) second.1 second.2)) x e in
    let s = continuation_took start 0x80 0xbf at bytes a.0 a.1 in
    let c = (first - 0xc0) * 0x40 + (a.0.0 - 0x80) in
    let code : encode_utf8 c ≡ first ∷ a.0.0 ∷ [] = encode_two c first a.0.0 (omega (arith, s.2, s.3)) (omega (arith, s.2, s.3)) (omega (arith, s.2, s.3)) (omega (arith, s.2, s.3)) in
    subst (RawTook first at bytes) (ok_is (found c a.0.1 a.0.2) x a.2)
    (record { tail = a.0.0 ∷ []; parts = s.0; place = s.1; utf8 = sym code; scalar = scalar_low c (omega (arith, s.2, s.3)); above = omega (arith, s.2, s.3) })

three_took : (start first low high at : ℕ) (bytes : List ℕ) (x : ℕ × ℕ × List ℕ) → LeadIs first (Some (Three low high)) → three_at start first low high at bytes ≡ Ok x → RawTook first at bytes x
unfolding three_at
three_took start first low high at bytes x is e =
    let a = bind_ok (continuation_at start low high at bytes) (λ second. continuation_at start 0x80 0xbf second.1 second.2 >>= λ third. Ok (found ((first - 0xe0) * 0x1000 + (second.0 - 0x80) * 0x40 + (third.0 - 0x80)) third.1 third.2)) x e in
    let b = bind_ok (continuation_at start 0x80 0xbf a.0.1 a.0.2) (λ third. Ok (found ((first - 0xe0) * 0x1000 + (a.0.0 - 0x80) * 0x40 + (third.0 - 0x80)) third.1 third.2)) x a.2 in
    let s = continuation_took start low high at bytes a.0 a.1 in
    let t = continuation_took start 0x80 0xbf a.0.1 a.0.2 b.0 b.1 in
    let c = (first - 0xe0) * 0x1000 + (a.0.0 - 0x80) * 0x40 + (b.0.0 - 0x80) in
    let least : 2048 ≤ c = elim (cases_eq first 0xe0) [ inl q ↦ omega (arith, is.4 q, s.2, s.3) | inr q ↦ omega (arith, is.0) ] in
    let code : encode_utf8 c ≡ first ∷ a.0.0 ∷ b.0.0 ∷ [] = encode_three c first a.0.0 b.0.0 least (omega (arith, is.1, is.2, is.3, s.2, s.3, t.2, t.3)) (omega (arith, is.0, is.2, is.3, s.2, s.3, t.2, t.3)) (omega (arith, is.0, is.2, is.3, s.2, s.3, t.2, t.3)) (omega (arith, is.2, is.3, s.2, s.3, t.2, t.3)) in
    let no_half : IsScalar c = elim (cases_eq first 0xed) [
      | inl q ↦ scalar_low c (omega (arith, is.5 q, s.2, s.3, t.2, t.3))
      | inr q ↦ elim (cases_lt first 0xed) [
        | inl lt ↦ scalar_low c (omega (arith, is.0, is.2, is.3, s.2, s.3, t.2, t.3))
        | inr le ↦ scalar_high c (omega (arith, q)) (omega (arith, is.1, is.2, is.3, s.2, s.3, t.2, t.3))
      ]
    ] in
    subst (RawTook first at bytes) (ok_is (found c b.0.1 b.0.2) x b.2)
    (record { tail = a.0.0 ∷ b.0.0 ∷ []; parts = s.0 ∙ ap (λ (r : List ℕ). a.0.0 ∷ r) t.0; place = omega (arith, s.1, t.1); utf8 = sym code; scalar = no_half; above = omega arith })

four_took : (start first low high at : ℕ) (bytes : List ℕ) (x : ℕ × ℕ × List ℕ) → LeadIs first (Some (Four low high)) → four_at start first low high at bytes ≡ Ok x → RawTook first at bytes x
unfolding four_at
four_took start first low high at bytes x is e =
    let value : ℕ → ℕ → ℕ → ℕ = λ p q r. (first - 0xf0) * 0x40000 + (p - 0x80) * 0x1000 + (q - 0x80) * 0x40 + (r - 0x80) in
    let a = bind_ok (continuation_at start low high at bytes) (λ second. continuation_at start 0x80 0xbf second.1 second.2 >>= λ third. continuation_at start 0x80 0xbf third.1 third.2 >>= λ fourth. Ok (found (value second.0 third.0 fourth.0) fourth.1 fourth.2)) x e in
    let b = bind_ok (continuation_at start 0x80 0xbf a.0.1 a.0.2) (λ third. continuation_at start 0x80 0xbf third.1 third.2 >>= λ fourth. Ok (found (value a.0.0 third.0 fourth.0) fourth.1 fourth.2)) x a.2 in
    let d = bind_ok (continuation_at start 0x80 0xbf b.0.1 b.0.2) (λ fourth. Ok (found (value a.0.0 b.0.0 fourth.0) fourth.1 fourth.2)) x b.2 in
    let s = continuation_took start low high at bytes a.0 a.1 in
    let t = continuation_took start 0x80 0xbf a.0.1 a.0.2 b.0 b.1 in
    let u = continuation_took start 0x80 0xbf b.0.1 b.0.2 d.0 d.1 in
    let c = (first - 0xf0) * 0x40000 + (a.0.0 - 0x80) * 0x1000 + (b.0.0 - 0x80) * 0x40 + (d.0.0 - 0x80) in
    let least : 65536 ≤ c = elim (cases_eq first 0xf0) [ inl q ↦ omega (arith, is.4 q, s.2, s.3) | inr q ↦ omega (arith, is.0) ] in
    let most : c < 1114112 = elim (cases_eq first 0xf4) [ inl q ↦ omega (arith, is.5 q, s.2, s.3, t.2, t.3, u.2, u.3) | inr q ↦ omega (arith, is.1, is.2, is.3, s.2, s.3, t.2, t.3, u.2, u.3) ] in
    let code : encode_utf8 c ≡ first ∷ a.0.0 ∷ b.0.0 ∷ d.0.0 ∷ [] = encode_four c first a.0.0 b.0.0 d.0.0 least (omega (arith, is.0, is.2, is.3, s.2, s.3, t.2, t.3, u.2, u.3)) (omega (arith, is.0, is.2, is.3, s.2, s.3, t.2, t.3, u.2, u.3)) (omega (arith, is.2, is.3, s.2, s.3, t.2, t.3, u.2, u.3)) (omega (arith, is.2, is.3, s.2, s.3, t.2, t.3, u.2, u.3)) in
    subst (RawTook first at bytes) (ok_is (found c d.0.1 d.0.2) x d.2)
    (record { tail = a.0.0 ∷ b.0.0 ∷ d.0.0 ∷ []; parts = s.0 ∙ ap (λ (r : List ℕ). a.0.0 ∷ r) (t.0 ∙ ap (λ (r : List ℕ). b.0.0 ∷ r) u.0); place = omega (arith, s.1, t.1, u.1); utf8 = sym code; scalar = scalar_high c (omega arith) most; above = omega arith })

lead_took : (o : Option Lead) (start first at : ℕ) (bytes : List ℕ) (x : ℕ × ℕ × List ℕ) → LeadIs first o → with_lead o start first at bytes ≡ Ok x → RawTook first at bytes x
lead_took None start first at bytes x is e = absurd cc
lead_took (Some Two) start first at bytes x is e = two_took start first at bytes x is.0 is.1 e
lead_took (Some (Three low high)) start first at bytes x is e = three_took start first low high at bytes x is e
lead_took (Some (Four low high)) start first at bytes x is e = four_took start first low high at bytes x is e

pub sequence_took : (start first at : ℕ) (bytes : List ℕ) (x : ℕ × ℕ × List ℕ) → sequence_at start first at bytes ≡ Ok x → RawTook first at bytes x
unfolding sequence_at
sequence_took start first at bytes x e = lead_took (lead first) start first at bytes x (lead_is first) e

-- ---- and again

-- the first byte of a character's UTF-8, and the others
pub record RawBytes (c : ℕ) : Type 0 where
  pub first : ℕ
  pub tail : List ℕ
  pub utf8 : encode_utf8 c ≡ first ∷ tail
  pub above : 128 ≤ first
  pub again : (start at : ℕ) (rest : List ℕ) → sequence_at start first at (tail ++ rest) ≡ Ok (c, at + length tail, rest)

raw_two : (c : ℕ) → 128 ≤ c → c < 2048 → RawBytes c
unfolding sequence_at two_at
raw_two c l h =
    let a = 192 + c / 64 in
    let b = 128 + c % 64 in
    let value : (a - 0xc0) * 0x40 + (b - 0x80) ≡ c = omega arith in
    record {
      first = a;
      tail = b ∷ [];
      utf8 = encode_two c a b l h refl refl;
      above = omega arith;
      again = λ start at rest. rw (lead_two a (omega arith) (omega arith), continuation_again start 0x80 0xbf at b rest (omega arith) (omega arith)) (ap (λ v. Ok (found v (at + 1) rest)) value);
    }

raw_three : (c : ℕ) → 2048 ≤ c → c < 65536 → IsScalar c → RawBytes c
unfolding sequence_at three_at
raw_three c l h is =
    let x = 224 + c / 4096 in
    let y = 128 + c / 64 % 64 in
    let z = 128 + c % 64 in
    let value : (x - 0xe0) * 0x1000 + (y - 0x80) * 0x40 + (z - 0x80) ≡ c = omega arith in
    let halves : (c < 55296) ⊎ (57344 ≤ c) = elim (scalar_cases c is) [ inl q ↦ inl q | inr q ↦ inr q.0 ] in
    let allows = lead_three x y (omega arith) (omega arith) (omega arith) (omega arith) (λ e. omega arith) (λ e. elim halves [ inl q ↦ omega arith | inr q ↦ absurd (omega arith) ]) in
    record {
      first = x;
      tail = y ∷ z ∷ [];
      utf8 = encode_three c x y z l h refl refl refl;
      above = omega arith;
      again = λ start at rest. rw (allows.2, continuation_again start allows.0 allows.1 at y (z ∷ rest) allows.3 allows.4, continuation_again start 0x80 0xbf (at + 1) z rest (omega arith) (omega arith)) (ap (λ v. Ok (found v.0 v.1 rest)) (pair value (omega arith)));
    }
  where
    pair : {a b p q : ℕ} → a ≡ p → b ≡ q → ◌≡◌ {A = ℕ × ℕ} (a, b) (p, q)
    pair s t = λ i. (s i, t i)

raw_four : (c : ℕ) → 65536 ≤ c → c < 1114112 → RawBytes c
unfolding sequence_at four_at
raw_four c l h =
    let x = 240 + c / 262144 in
    let y = 128 + c / 4096 % 64 in
    let z = 128 + c / 64 % 64 in
    let w = 128 + c % 64 in
    let value : (x - 0xf0) * 0x40000 + (y - 0x80) * 0x1000 + (z - 0x80) * 0x40 + (w - 0x80) ≡ c = omega arith in
    let allows = lead_four x y (omega arith) (omega arith) (omega arith) (omega arith) (λ e. omega arith) (λ e. omega arith) in
    record {
      first = x;
      tail = y ∷ z ∷ w ∷ [];
      utf8 = encode_four c x y z w l refl refl refl refl;
      above = omega arith;
      again = λ start at rest. rw (allows.2, continuation_again start allows.0 allows.1 at y (z ∷ w ∷ rest) allows.3 allows.4, continuation_again start 0x80 0xbf (at + 1) z (w ∷ rest) (omega arith) (omega arith), continuation_again start 0x80 0xbf (at + 1 + 1) w rest (omega arith) (omega arith)) (ap (λ v. Ok (found v.0 v.1 rest)) (pair value (omega arith)));
    }
  where
    pair : {a b p q : ℕ} → a ≡ p → b ≡ q → ◌≡◌ {A = ℕ × ℕ} (a, b) (p, q)
    pair s t = λ i. (s i, t i)

pub raw_bytes : (c : ℕ) → 128 ≤ c → IsScalar c → RawBytes c
raw_bytes c l is =
    elim (cases_lt c 2048) [
      | inl h ↦ raw_two c l h
      | inr m ↦ elim (cases_lt c 65536) [
        | inl h ↦ raw_three c m h is
        | inr n ↦ raw_four c n (elim (scalar_cases c is) [ inl q ↦ omega arith | inr q ↦ q.1 ])
      ]
    ]
