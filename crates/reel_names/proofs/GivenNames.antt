-- Names given, one after another.
use Rattle.std.proofs.Common.{◌≡◌, ℕ, ◌+◌, ◌/◌, ◌%◌, ◌<◌, ◌≤◌, Bool, true, false, ◌||◌, ◌==◌, cond, List, [], ◌∷◌, ◌++◌, Some, None, length, refl, sym, ap, ◌∙◌, arith, inl, inr}
use Rattle.std.proofs.lemmas.Bool.{and_parts, cases_Bool, eqb-true}
use Rattle.std.proofs.lemmas.Bool.Decides.{nat_tests}
use Rattle.std.proofs.lemmas.Cmp.{nat_list_eq_equiv}
use Rattle.std.proofs.lemmas.Slice.Eq.{bytes_eq-Decides}
use Rattle.std.specs.Str.{bytes_eq}
use Rattle.reel_names.specs.declared.namer.ReelName.{ReelName}
use Rattle.reel_names.specs.Names.{fits}
use Rattle.reel_names.specs.Namers.{AreNames, AreNumbered, has_name, has_reel, name_of, numbered_name, with_name}

or_false : (a b : Bool) → (a || b) ≡ false → (a ≡ false) × (b ≡ false)
or_false true b h = absurd cc
or_false false b h = (refl, h)

has_reel_more : (rs : List ReelName) (p : ReelName) (reel : ℕ) → has_reel rs reel ≡ false → (p.reel == reel) ≡ false → has_reel (rs ++ p ∷ []) reel ≡ false
has_reel_more [] p reel h e = rw e refl
has_reel_more (r ∷ rs) p reel h e =
    let both = or_false (r.reel == reel) (has_reel rs reel) h in
    rw (both.0, has_reel_more rs p reel both.1 e) refl

has_name_more : (rs : List ReelName) (p : ReelName) (name : List ℕ) → has_name rs name ≡ false → bytes_eq p.name name ≡ false → has_name (rs ++ p ∷ []) name ≡ false
has_name_more [] p name h e = rw e refl
has_name_more (r ∷ rs) p name h e =
    let both = or_false (bytes_eq r.name name) (has_name rs name) h in
    rw (both.0, has_name_more rs p name both.1 e) refl

same_numbers : (k m : ℕ) → (k == m) ≡ (m == k)
same_numbers k m = grind (arith, nat_tests)

same_bytes : (xs ys : List ℕ) → bytes_eq xs ys ≡ bytes_eq ys xs
same_bytes xs ys = nat_list_eq_equiv.symm xs ys

pub same_text : (xs ys : List ℕ) → xs ≡ ys → bytes_eq xs ys ≡ true
same_text xs ys e = (bytes_eq-Decides xs ys).1 e

pub text_same : (xs ys : List ℕ) → bytes_eq xs ys ≡ true → xs ≡ ys
text_same xs ys t = (bytes_eq-Decides xs ys).0 t

-- names with one more behind them
pub names_more : (rs : List ReelName) (p : ReelName) → AreNames rs → fits p.name ≡ true → has_reel rs p.reel ≡ false → has_name rs p.name ≡ false
    → AreNames (rs ++ p ∷ [])
names_more [] p names fit reel name = (fit, (refl, (refl, tt)))
names_more (r ∷ rs) p names fit reel name =
    let reels = or_false (r.reel == p.reel) (has_reel rs p.reel) reel in
    let texts = or_false (bytes_eq r.name p.name) (has_name rs p.name) name in (
      names.0,
      (
        has_reel_more rs p r.reel names.1.0 (same_numbers p.reel r.reel ∙ reels.0),
        (
          has_name_more rs p r.name names.1.1.0 (same_bytes p.name r.name ∙ texts.0),
          names_more rs p names.1.1.1 fit reels.1 texts.1,
        ),
      ),
    )

pub unnamed_reel : (rs : List ReelName) (reel : ℕ) → name_of rs reel ≡ None → has_reel rs reel ≡ false
unnamed_reel [] reel h = refl
unnamed_reel (r ∷ rs) reel h =
    elim (cases_Bool (r.reel == reel)) [
      | inl t ↦
          let named : Some r.name ≡ None = sym (ap (λ (b : Bool). cond b (Some r.name) (name_of rs reel)) t) ∙ h in
          absurd cc
      | inr f ↦
          let others : name_of rs reel ≡ None = sym (ap (λ (b : Bool). cond b (Some r.name) (name_of rs reel)) f) ∙ h in
          rw (f, unnamed_reel rs reel others) refl
    ]

pub named_reel : (rs : List ReelName) (reel : ℕ) (name : List ℕ) → name_of rs reel ≡ Some name → has_reel rs reel ≡ true
named_reel [] reel name h = absurd cc
named_reel (r ∷ rs) reel name h =
    elim (cases_Bool (r.reel == reel)) [
      | inl t ↦ rw t refl
      | inr f ↦
          let others : name_of rs reel ≡ Some name = sym (ap (λ (b : Bool). cond b (Some r.name) (name_of rs reel)) f) ∙ h in
          rw (f, named_reel rs reel name others) refl
    ]

-- numbered names of different numbers are different
same_number : (k m : ℕ) → k < m → m < 1000 → bytes_eq (numbered_name k) (numbered_name m) ≡ true → ⊥
same_number k m h l e =
    let digits = and_parts (82 == 82) _ e in
    let first = and_parts (48 + k / 100 == 48 + m / 100) _ digits.1 in
    let second = and_parts (48 + k / 10 % 10 == 48 + m / 10 % 10) _ first.1 in
    let third = and_parts (48 + k % 10 == 48 + m % 10) _ second.1 in
    omega (arith, h, l, eqb-true (48 + k / 100) (48 + m / 100) first.0, eqb-true (48 + k / 10 % 10) (48 + m / 10 % 10) second.0, eqb-true (48 + k % 10) (48 + m % 10) third.0)

apart : (k m : ℕ) → k < m → m < 1000 → bytes_eq (numbered_name k) (numbered_name m) ≡ false
apart k m h l = elim (cases_Bool (bytes_eq (numbered_name k) (numbered_name m))) [ inl t ↦ absurd (same_number k m h l t) | inr f ↦ f ]

pub number_free : (k m : ℕ) (rs : List ReelName) → AreNumbered k rs → k + length rs ≤ m → m < 1000 → has_name rs (numbered_name m) ≡ false
number_free k m [] h l s = refl
number_free k m (r ∷ rs) h l s =
    let this : bytes_eq r.name (numbered_name m) ≡ false = ap (λ (n : List ℕ). bytes_eq n (numbered_name m)) h.0 ∙ apart k m (omega arith) s in
    let others = number_free (k + 1) m rs h.1 (omega arith) s in
    rw (this, others) refl

pub numbered_more : (k : ℕ) (rs : List ReelName) (p : ReelName) → AreNumbered k rs → p.name ≡ numbered_name (k + length rs) → AreNumbered k (rs ++ p ∷ [])
numbered_more k [] p h e = (e ∙ ap numbered_name (omega arith), tt)
numbered_more k (r ∷ rs) p h e =
    let n : k + length (r ∷ rs) ≡ k + 1 + length rs = omega arith in
    (h.0, numbered_more (k + 1) rs p h.1 (e ∙ ap numbered_name n))

-- a reel with a name keeps it, and one without gets one behind the others
pub with_kept : (given : List ReelName) (reel : ℕ) (name : List ℕ) → name_of given reel ≡ Some name → given ≡ with_name given reel name
with_kept given reel name h = rw (named_reel given reel name h) refl

pub with_more : (given : List ReelName) (reel : ℕ) (name : List ℕ) → name_of given reel ≡ None → given ++ record { reel = reel; name = name } ∷ [] ≡ with_name given reel name
with_more given reel name h = rw (unnamed_reel given reel h) refl
