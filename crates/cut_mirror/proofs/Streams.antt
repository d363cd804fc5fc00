-- What a stream comes to.
use Rattle.std.proofs.Common.{◌≡◌, ◌⊎◌, inl, inr, ℕ, zero, suc, ◌<◌, List, [], ◌∷◌, ◌++◌, Option, Some, None, length}
use Rattle.std.proofs.Common.{slice_get, refl, sym, ap, ◌∙◌, subst, arith}
use Rattle.cut_mirror.specs.Following.{GoesOn, Follows}
use Rattle.room_core.specs.declared.entry.Entry.{Entry}

none_at_end : {A : Type 0} (xs : List A) (k : ℕ) (x : A) → k ≡ length xs → slice_get xs k ≡ Some x → ⊥
none_at_end [] k x e is = Prim.grind (arith, is)
none_at_end (y ∷ ys) zero x e is = omega (arith, e)
none_at_end (y ∷ ys) (suc k) x e is = none_at_end ys k x (omega (arith, e)) is

one_next : {C : Type 0} (before one other : List (Entry C)) (place : ℕ) (e : Entry C) → GoesOn before place e one
    → GoesOn before place e other → one ≡ other
one_next before one other place e (inl a) (inl b) = a.1 ∙ sym b.1
one_next before one other place e (inl a) (inr b) = absurd (none_at_end before place e b.0 a.0)
one_next before one other place e (inr a) (inl b) = absurd (none_at_end before place e a.0 b.0)
one_next before one other place e (inr a) (inr b) = a.1 ∙ sym b.1

pub one_end : {C : Type 0} (before one other : List (Entry C)) (items : List (ℕ × Entry C)) → Follows before items one
    → Follows before items other → one ≡ other
one_end before one other [] a b = a ∙ sym b
one_end before one other (item ∷ items) a b =
    let same = one_next before a.0 b.0 item.0 item.1 a.1 b.1 in
    one_end b.0 one other items (subst (λ next. Follows next items one) same a.2) b.2

pub one_more : {C : Type 0} (before after next : List (Entry C)) (items : List (ℕ × Entry C)) (place : ℕ) (e : Entry C)
    → Follows before items after → GoesOn after place e next → Follows before (items ++ (place, e) ∷ []) next
one_more before after next [] place e f g = (next, subst (λ xs. GoesOn xs place e next) f g, refl)
one_more before after next (item ∷ items) place e f g = (f.0, f.1, one_more f.0 after next items place e f.2 g)
