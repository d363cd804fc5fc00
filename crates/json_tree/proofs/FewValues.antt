-- A text has at least two bytes for each list and object in it.
use Rattle.std.proofs.Common.{◌≡◌, ℕ, zero, suc, ◌+◌, ◌≤◌, List, [], ◌∷◌, ◌++◌, length, refl, ap, arith, length-append, Result, Ok, Err, IfOk}
use Rattle.json_tokens.specs.declared.fault.JsonFault.{JsonFault}
use Rattle.json_tree.specs.Tree.{Tree, Kind, Trees, Members, At, Null, Bool_of, Numeral_of, Wide, Text_of, List_of, Object_of, no_trees, more_trees, no_members, more_members, in_trees, in_members}
use Rattle.json_tree.specs.Size.{tree_size, kind_size, trees_size, members_size}
use Rattle.json_tree.specs.Grammar.{AreElements, IsItem, IsMember, IsIn, IsKind, IsTree, SpellsAt, Spells}

abbrev total : {E : Type 0} → (E → ℕ) → List E → ℕ
total size [] = 0
total size (e ∷ es) = size e + total size es

abbrev Small : {E : Type 0} → (E → ℕ) → (ℕ → List ℕ → E → Type 0) → Type 0
Small {E} size Is = (at : ℕ) (bytes : List ℕ) (e : E) → Is at bytes e → size e ≤ length bytes

in_trees_total : (ts : Trees) → total tree_size (in_trees ts) ≡ trees_size ts
in_trees_total no_trees = refl
in_trees_total (more_trees t ts) = ap (λ n. tree_size t + n) (in_trees_total ts)

abbrev member_size : List ℕ × Tree → ℕ
member_size m = tree_size m.1

in_members_total : (ms : Members) → total member_size (in_members ms) ≡ members_size ms
in_members_total no_members = refl
in_members_total (more_members n t ms) = ap (λ k. tree_size t + k) (in_members_total ms)

module _ {E : Type 0} (size : E → ℕ) (Is : ℕ → List ℕ → E → Type 0) (small : Small size Is) where
  elements_small : (at : ℕ) (bytes : List ℕ) (es : List E) → AreElements Is at bytes es → total size es ≤ length bytes
  elements_small at bytes [] h = omega arith
  elements_small at bytes (e ∷ []) h = omega (arith, small at bytes e h)
  elements_small at bytes (e ∷ f ∷ es) h =
      omega (arith, ap length h.2, length-append h.0 (44 ∷ h.1), small at h.0 e h.3, elements_small (at + length h.0 + 1) h.1 (f ∷ es) h.4)

  inside_small : (left right at : ℕ) (bytes : List ℕ) (es : List E) → IsIn left right (λ inner. AreElements Is at inner es) bytes → total size es + 1 ≤ length bytes
  inside_small left right at bytes es h =
      omega (arith, ap length h.1, length-append h.0 (right ∷ []), elements_small at h.0 es h.2)

module _ (Is : ℕ → List ℕ → Tree → Type 0) (small : Small tree_size Is) where
  item_small : Small tree_size (IsItem Is)
  item_small at bytes t h =
      omega (arith, ap length h.bytes_are, length-append h.before (h.text ++ h.behind), length-append h.text h.behind, small (at + length h.before) h.text t h.value)

  named_small : Small member_size (IsMember Is)
  named_small at bytes m h =
      omega (
        arith,
        ap length h.bytes_are,
        length-append h.before (h.quoted ++ (h.behind ++ 58 ∷ h.item)),
        length-append h.quoted (h.behind ++ 58 ∷ h.item),
        length-append h.behind (58 ∷ h.item),
        item_small (at + length h.before + length h.quoted + length h.behind + 1) h.item m.1 h.value,
      )

  kind_small : (Nested : Type 0) (at : ℕ) (bytes : List ℕ) (kind : Kind) → IsKind Nested Is at bytes kind → kind_size kind ≤ length bytes
  kind_small Nested at bytes Null h = omega arith
  kind_small Nested at bytes (Bool_of b) h = omega arith
  kind_small Nested at bytes (Numeral_of m p) h = omega arith
  kind_small Nested at bytes Wide h = omega arith
  kind_small Nested at bytes (Text_of s) h = omega arith
  kind_small Nested at bytes (List_of ts) h =
      omega (arith, inside_small tree_size (IsItem Is) item_small 91 93 (at + 1) bytes (in_trees ts) h.1, in_trees_total ts)
  kind_small Nested at bytes (Object_of ms) h =
      omega (arith, inside_small member_size (IsMember Is) named_small 123 125 (at + 1) bytes (in_members ms) h.1, in_members_total ms)

  tree_small : (Nested : Type 0) → Small tree_size (IsTree Nested Is)
  tree_small Nested at bytes (At place kind) h = kind_small Nested at bytes kind h.1

none_small : Small tree_size (λ _ _ _. ⊥)
none_small at bytes t h = absurd h

spelled_small : (levels : ℕ) → Small tree_size (SpellsAt levels)
unfolding SpellsAt
spelled_small zero at bytes t h = tree_small (λ _ _ _. ⊥) none_small ⊥ at bytes t h
spelled_small (suc levels) at bytes t h = tree_small (SpellsAt levels) (spelled_small levels) (Unit {0}) at bytes t h

pub text_small : (levels : ℕ) (bytes : List ℕ) (t : Tree) → Spells levels bytes t → tree_size t ≤ length bytes
unfolding Spells
text_small levels bytes t h = item_small (SpellsAt levels) (spelled_small levels) 0 bytes t h

pub found_small : {A : Type 0} (view : A → Tree) (bytes : List ℕ) (r : Result A JsonFault) → IfOk r (λ x. (length bytes ≤ 33554432) × Spells 64 bytes (view x)) → IfOk r (λ x. tree_size (view x) ≤ length bytes)
found_small view bytes (Ok x) h = text_small 64 bytes (view x) h.1
found_small view bytes (Err e) h = tt
