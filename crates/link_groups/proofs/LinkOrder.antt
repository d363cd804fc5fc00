-- The order of links: by their homes, and at one home by their numbers.
use Rattle.std.proofs.Common.{◌≡◌, ◌<◌, ◌⊎◌, inl, inr, Bool, true, false, eqb, ltb, ◌&&◌, ◌||◌, refl, ◌∙◌, arith}
use Rattle.std.proofs.lemmas.Bool.{eqb-true, eqb-false, ltb-true, ltb-false}
use Rattle.frame_meaning.specs.declared.cells.Link.{Link}
use Rattle.composables.specs.Links.{link_before}

abbrev pub Before : Link → Link → Type 0
Before k l = (k.home < l.home) ⊎ ((k.home ≡ l.home) × (k.number < l.number))

pub is-before : (k l : Link) → link_before k l ≡ true → Before k l
is-before k l e = by (ltb k.home l.home) (eqb k.home l.home) (ltb k.number l.number) refl refl refl e where
  by : (a b c : Bool) → ltb k.home l.home ≡ a → eqb k.home l.home ≡ b → ltb k.number l.number ≡ c → a || (b && c) ≡ true → Before k l
  by true b c f g h e = inl (ltb-true k.home l.home f)
  by false true true f g h e = inr (eqb-true k.home l.home g, ltb-true k.number l.number h)
  by false true false f g h e = absurd cc
  by false false c f g h e = absurd cc

pub not-before : (k l : Link) → link_before k l ≡ false → Before k l → ⊥
not-before k l e = by (ltb k.home l.home) (eqb k.home l.home) (ltb k.number l.number) refl refl refl e where
  by : (a b c : Bool) → ltb k.home l.home ≡ a → eqb k.home l.home ≡ b → ltb k.number l.number ≡ c → a || (b && c) ≡ false → Before k l → ⊥
  by true b c f g h e p = absurd cc
  by false b c f g h e (inl less) = omega (arith, ltb-false k.home l.home f, less)
  by false true true f g h e (inr p) = absurd cc
  by false true false f g h e (inr p) = omega (arith, ltb-false k.number l.number h, p.1)
  by false false c f g h e (inr p) = eqb-false k.home l.home g p.0

pub before-is : (k l : Link) → Before k l → link_before k l ≡ true
before-is k l p = by (link_before k l) refl where
  by : (b : Bool) → link_before k l ≡ b → b ≡ true
  by true e = refl
  by false e = absurd (not-before k l e p)

pub not-is : (k l : Link) → (Before k l → ⊥) → link_before k l ≡ false
not-is k l n = by (link_before k l) refl where
  by : (b : Bool) → link_before k l ≡ b → b ≡ false
  by true e = absurd (n (is-before k l e))
  by false e = refl

pub before-then : (k l m : Link) → Before k l → Before l m → Before k m
before-then k l m (inl a) (inl b) = inl (omega (arith, a, b))
before-then k l m (inl a) (inr b) = inl (omega (arith, a, b.0))
before-then k l m (inr a) (inl b) = inl (omega (arith, a.0, b))
before-then k l m (inr a) (inr b) = inr (a.0 ∙ b.0, omega (arith, a.1, b.1))
