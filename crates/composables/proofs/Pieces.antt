-- Items and gaps at an index, before it and from it on.
use Rattle.std.proofs.Common.{◌≡◌, ℕ, zero, suc, ◌+◌, ◌-◌, ◌<◌, ◌≤◌, ◌↔◌, List, [], ◌∷◌, ◌++◌, Option, Some, None, IsNone, length, get_or, slice_get, add-one, sym, ap, ◌∙◌, arith, take, drop, refl}
use Rattle.std.specs.Option.{option_to_list}
use Rattle.std.proofs.lemmas.List.{length-drop}
use Rattle.composables.specs.declared.items.ItemView.{ItemView}

-- those that are left from an index on
pub left-first : (vs old new : List ItemView) (i : ℕ) (v : ItemView) → old ≡ drop i vs → old ≡ v ∷ new → slice_get vs i ≡ Some v
left-first vs old new i v left e = at vs i (sym left ∙ e) where
  at : (vs : List ItemView) (i : ℕ) → drop i vs ≡ v ∷ new → slice_get vs i ≡ Some v
  at [] i e = absurd (omega (arith, ap length e, length-drop {A = ItemView} i []))
  at (x ∷ xs) zero e = let same : x ≡ v = cc in ap Some same
  at (x ∷ xs) (suc i) e = at xs i e

pub left-rest : (vs old new : List ItemView) (i : ℕ) (v : ItemView) → old ≡ drop i vs → old ≡ v ∷ new → new ≡ drop (i + 1) vs
left-rest vs old new i v left e = rw add-one (at vs i (sym left ∙ e)) where
  at : (vs : List ItemView) (i : ℕ) → drop i vs ≡ v ∷ new → new ≡ drop (suc i) vs
  at [] i e = absurd (omega (arith, ap length e, length-drop {A = ItemView} i []))
  at (x ∷ xs) zero e = cc
  at (x ∷ xs) (suc i) e = at xs i e

pub left-some : (vs old : List ItemView) (i : ℕ) → i < length vs → old ≡ drop i vs → old ≡ [] → ⊥
left-some vs old i h left none = omega (arith, h, ap length left, ap length none, length-drop i vs)

-- the one at an index
pub got : (vs : List ItemView) (i : ℕ) (v : ItemView) → slice_get vs i ≡ Some v → v ≡ get_or vs i v
got [] i v e = refl
got (x ∷ xs) zero v e = cc
got (x ∷ xs) (suc i) v e = got xs i v e

pub got_within : (vs : List ItemView) (i : ℕ) (v : ItemView) → slice_get vs i ≡ Some v → i < length vs
got_within [] i v e = absurd (never e) where
  never : None ≡ Some v → ⊥
  never h = cc
got_within (x ∷ xs) zero v e = omega arith
got_within (x ∷ xs) (suc i) v e = omega (arith, got_within xs i v e)

-- those before an index are those before its last one, and that one
take_behind : (vs : List ItemView) (i : ℕ) → i < length vs → take (suc i) vs ≡ take i vs ++ option_to_list (slice_get vs i)
take_behind [] i h = absurd (omega (arith, h))
take_behind (x ∷ xs) zero h = refl
take_behind (x ∷ xs) (suc i) h = ap (λ ys. x ∷ ys) (take_behind xs i (omega (arith, h)))

pub last_part : (vs : List ItemView) (i : ℕ) (o : Option ItemView) → 0 < i → i ≤ length vs → o ≡ slice_get vs (i - 1)
    → take i vs ≡ take (i - 1) vs ++ option_to_list o
last_part vs i o above within is =
    let n : i ≡ suc (i - 1) = omega (arith, above) in
    ap (λ (k : ℕ). take k vs) n ∙ (take_behind vs (i - 1) (omega (arith, above, within)) ∙ ap (λ (p : Option ItemView). take (i - 1) vs ++ option_to_list p) (sym is))

pub last_there : (vs : List ItemView) (i : ℕ) (o : Option ItemView) → 0 < i → i ≤ length vs → o ≡ slice_get vs (i - 1) → IsNone o → ⊥
last_there vs i o above within is none = there vs (i - 1) o (omega (arith, above, within)) is none where
  there : (ws : List ItemView) (k : ℕ) (p : Option ItemView) → k < length ws → p ≡ slice_get ws k → IsNone p → ⊥
  there [] k p h e n = omega (arith, h)
  there (w ∷ ws) zero p h e n = cc
  there (w ∷ ws) (suc k) p h e n = there ws k p (omega (arith, h)) e n

-- those from an index on are the one there, if there is one, and those behind it
pub first_part : (vs : List ItemView) (i : ℕ) (o : Option ItemView) → o ≡ slice_get vs i → drop i vs ≡ option_to_list o ++ drop (i + 1) vs
first_part vs i o is = rw (add-one, is) (at vs i) where
  at : (ws : List ItemView) (k : ℕ) → drop k ws ≡ option_to_list (slice_get ws k) ++ drop (suc k) ws
  at [] zero = refl
  at [] (suc k) = refl
  at (w ∷ ws) zero = refl
  at (w ∷ ws) (suc k) = at ws k

pub first_there : (vs : List ItemView) (i : ℕ) (o : Option ItemView) → o ≡ slice_get vs i → IsNone o ↔ length vs ≤ i
first_there vs i o is = at vs i o is where
  at : (ws : List ItemView) (k : ℕ) (p : Option ItemView) → p ≡ slice_get ws k → IsNone p ↔ length ws ≤ k
  at [] k p e = (λ n. omega arith, λ h. cc)
  at (w ∷ ws) zero p e = (λ n. cc, λ h. absurd (omega (arith, h)))
  at (w ∷ ws) (suc k) p e = let later = at ws k p e in (λ n. omega (arith, later.0 n), λ h. later.1 (omega (arith, h)))
