-- Steps that did not fail, and the blanks, bytes and words that they took.
use Rattle.std.proofs.Common.{◌≡◌, ℕ, ◌+◌, Bool, true, false, cond, eqb, List, [], ◌∷◌, ◌++◌, length, Option, Some, None, Result, Ok, Err, refl, sym, ap, ◌∙◌, ◌⊎◌, inl, inr, arith}
use Rattle.std.proofs.lemmas.Bool.{eqb-true, eq-eqb, ne_eqb, or_cases}
use Rattle.json_tokens.specs.Reading.{◌>>=◌, is_blank, past_blanks, byte_at, or_syntax, word_at}
use Rattle.json_tokens.specs.Grammar.{IsBlank, AreBlanks}

pub bind_ok : {A B F : Type 0} (r : Result A F) (f : A → Result B F) (y : B) → (r >>= f) ≡ Ok y → (x : A) × (r ≡ Ok x) × (f x ≡ Ok y)
bind_ok (Ok x) f y e = (x, refl, e)
bind_ok (Err d) f y e = absurd cc

pub ok_is : {A F : Type 0} (x y : A) → ◌≡◌ {A = Result A F} (Ok x) (Ok y) → x ≡ y
ok_is x y e = cc

pub some_is : {A : Type 0} (x y : A) → ◌≡◌ {A = Option A} (Some x) (Some y) → x ≡ y
some_is x y e = cc

-- which way a test went
pub chosen : {A : Type 0} (b : Bool) (x y z : A) → cond b x y ≡ z → ((b ≡ true) × (x ≡ z)) ⊎ ((b ≡ false) × (y ≡ z))
chosen true x y z e = inl (refl, e)
chosen false x y z e = inr (refl, e)

-- what a reader took from the front
pub record Took {X : Type 0} (Is : ℕ → List ℕ → X → Type 0) (at : ℕ) (bytes : List ℕ) (x : X) (next : ℕ) (rest : List ℕ) : Type 0 where
  pub front : List ℕ
  pub parts : bytes ≡ front ++ rest
  pub place : next ≡ at + length front
  pub is : Is at front x

-- ---- a byte

byte_if : (t : Bool) (byte at b : ℕ) (bs : List ℕ) (x : ℕ × List ℕ) → eqb b byte ≡ t → cond t (Some (at + 1, bs)) None ≡ Some x → (b ∷ bs ≡ byte ∷ x.1) × (x.0 ≡ at + 1)
byte_if true byte at b bs x e h =
    let p : (at + 1, bs) ≡ x = some_is (at + 1, bs) x h in
    (ap (λ c. c ∷ bs) (eqb-true b byte e) ∙ ap (λ (y : ℕ × List ℕ). byte ∷ y.1) p, ap (λ (y : ℕ × List ℕ). y.0) (sym p))
byte_if false byte at b bs x e h = absurd cc

pub byte_took : (byte at : ℕ) (bytes : List ℕ) (x : ℕ × List ℕ) → byte_at byte at bytes ≡ Some x → (bytes ≡ byte ∷ x.1) × (x.0 ≡ at + 1)
byte_took byte at [] x e = absurd cc
byte_took byte at (b ∷ bs) x e = byte_if (eqb b byte) byte at b bs x refl e

pub byte_again : (byte at : ℕ) (rest : List ℕ) → byte_at byte at (byte ∷ rest) ≡ Some (at + 1, rest)
byte_again byte at rest = rw (eq-eqb byte byte refl) refl

pub byte_other : (byte at b : ℕ) (rest : List ℕ) → (b ≡ byte → ⊥) → byte_at byte at (b ∷ rest) ≡ None
byte_other byte at b rest ne = rw (ne_eqb b byte ne) refl

-- ---- a word

or_syntax_ok : (at : ℕ) (o : Option (ℕ × List ℕ)) (x : ℕ × List ℕ) → or_syntax at o ≡ Ok x → o ≡ Some x
or_syntax_ok at None x e = absurd cc
or_syntax_ok at (Some y) x e = ap Some (ok_is y x e)

pub word_took : (word : List ℕ) (at : ℕ) (bytes : List ℕ) (x : ℕ × List ℕ) → word_at word at bytes ≡ Ok x → (bytes ≡ word ++ x.1) × (x.0 ≡ at + length word)
word_took [] at bytes x e =
    let p : (at, bytes) ≡ x = ok_is (at, bytes) x e in
    (ap (λ (y : ℕ × List ℕ). y.1) p, ap (λ (y : ℕ × List ℕ). y.0) (sym p) ∙ omega arith)
word_took (w ∷ ws) at bytes x e =
    let a = bind_ok (or_syntax at (byte_at w at bytes)) (λ after. word_at ws after.0 after.1) x e in
    let b = byte_took w at bytes a.0 (or_syntax_ok at (byte_at w at bytes) a.0 a.1) in
    let c = word_took ws a.0.0 a.0.1 x a.2 in
    (b.0 ∙ ap (λ (r : List ℕ). w ∷ r) c.0, omega (arith, b.1, c.1))

-- ---- blanks

test_blank : (b : ℕ) → is_blank b ≡ true → IsBlank b
test_blank b e =
    elim (or_cases _ _ e) [
      | inl f ↦ elim (or_cases _ _ f) [
        | inl g ↦ elim (or_cases _ _ g) [ inl h ↦ inl (eqb-true _ _ h) | inr h ↦ inr (inl (eqb-true _ _ h)) ]
        | inr g ↦ inr (inr (inl (eqb-true _ _ g)))
      ]
      | inr f ↦ inr (inr (inr (eqb-true _ _ f)))
    ]

pub blank_test : (b : ℕ) → IsBlank b → is_blank b ≡ true
blank_test b (inl e) = ap is_blank e
blank_test b (inr (inl e)) = ap is_blank e
blank_test b (inr (inr (inl e))) = ap is_blank e
blank_test b (inr (inr (inr e))) = ap is_blank e

-- the rest doesn't begin with a blank
abbrev pub NoBlank : List ℕ → Type 0
NoBlank [] = Unit {0}
NoBlank (b ∷ bs) = is_blank b ≡ false

abbrev pub Blanks : ℕ → List ℕ → ℕ → List ℕ → Type 0
Blanks at bytes next rest = (ws : List ℕ) × AreBlanks ws × (bytes ≡ ws ++ rest) × (next ≡ at + length ws)

blanks_if : (t : Bool) (at b : ℕ) (bs : List ℕ) → is_blank b ≡ t → Blanks (at + 1) bs (past_blanks (at + 1) bs).0 (past_blanks (at + 1) bs).1
    → Blanks at (b ∷ bs) (cond t (past_blanks (at + 1) bs) (at, b ∷ bs)).0 (cond t (past_blanks (at + 1) bs) (at, b ∷ bs)).1
blanks_if true at b bs e h = (b ∷ h.0, (test_blank b e, h.1), ap (λ (r : List ℕ). b ∷ r) h.2, omega (arith, h.3))
blanks_if false at b bs e h = ([], tt, refl, omega arith)

pub blanks_took : (at : ℕ) (bytes : List ℕ) → Blanks at bytes (past_blanks at bytes).0 (past_blanks at bytes).1
blanks_took at [] = ([], tt, refl, omega arith)
blanks_took at (b ∷ bs) = blanks_if (is_blank b) at b bs refl (blanks_took (at + 1) bs)

pub blanks_none : (at : ℕ) (rest : List ℕ) → NoBlank rest → past_blanks at rest ≡ (at, rest)
blanks_none at [] h = refl
blanks_none at (b ∷ bs) h = rw h refl

pub blanks_again : (ws : List ℕ) (at : ℕ) (rest : List ℕ) → AreBlanks ws → NoBlank rest → past_blanks at (ws ++ rest) ≡ (at + length ws, rest)
blanks_again [] at rest h stop = blanks_none at rest stop ∙ ap (λ (n : ℕ). (n, rest)) (omega arith)
blanks_again (w ∷ ws) at rest h stop = rw (blank_test w h.0, blanks_again ws (at + 1) rest h.1 stop) (ap (λ (n : ℕ). (n, rest)) (omega arith))
