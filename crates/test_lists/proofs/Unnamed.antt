-- A reel without a name has none where another gets one.
use Rattle.std.proofs.Common.{◌≡◌, ℕ, ◌+◌, ◌≤◌, Bool, false, ◌==◌, cond, List, [], ◌∷◌, ◌++◌, Some, None, length, refl, sym, ap, ◌∙◌, arith, inl, inr}
use Rattle.std.proofs.lemmas.Bool.{cases_Bool}
use Rattle.std.proofs.lemmas.Bool.Decides.{nat_tests}
use Rattle.reel_names.specs.declared.namer.ReelName.{ReelName}
use Rattle.reel_names.specs.Namers.{has_reel, name_of, with_name}

others : (p q : ℕ) → (p ≡ q → ⊥) → (p == q) ≡ false
others p q differ = elim (cases_Bool (p == q)) [ inl t ↦ absurd (differ (grind (arith, nat_tests, t))) | inr f ↦ f ]

unnamed_behind : (given : List ReelName) (p : ReelName) (q : ℕ) → (p.reel == q) ≡ false → name_of given q ≡ None → name_of (given ++ p ∷ []) q ≡ None
unnamed_behind [] p q f h = rw f refl
unnamed_behind (r ∷ rs) p q f h =
    elim (cases_Bool (r.reel == q)) [
      | inl t ↦
          let named : Some r.name ≡ None = sym (ap (λ (b : Bool). cond b (Some r.name) (name_of rs q)) t) ∙ h in
          absurd cc
      | inr g ↦
          let rest : name_of rs q ≡ None = sym (ap (λ (b : Bool). cond b (Some r.name) (name_of rs q)) g) ∙ h in
          rw (g, unnamed_behind rs p q f rest) refl
    ]

pub unnamed_still : (given : List ReelName) (reel : ℕ) (name : List ℕ) (q : ℕ) → (reel ≡ q → ⊥) → name_of given q ≡ None → name_of (with_name given reel name) q ≡ None
unnamed_still given reel name q differ h =
    elim (cases_Bool (has_reel given reel)) [
      | inl t ↦ rw t h
      | inr f ↦ rw f (unnamed_behind given (record { reel = reel; name = name }) q (others reel q differ) h)
    ]

longer : (given : List ReelName) (p : ReelName) → length (given ++ p ∷ []) ≡ length given + 1
longer [] p = refl
longer (r ∷ rs) p = omega (arith, longer rs p)

pub one_more : (given : List ReelName) (reel : ℕ) (name : List ℕ) → length (with_name given reel name) ≤ length given + 1
one_more given reel name =
    elim (cases_Bool (has_reel given reel)) [
      | inl t ↦ rw t (omega arith)
      | inr f ↦ rw f (omega (arith, longer given (record { reel = reel; name = name })))
    ]
