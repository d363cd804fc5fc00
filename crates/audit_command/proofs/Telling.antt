-- What is known of replies, one after another.
use Rattle.std.proofs.Common.{◌≡◌, ℕ, zero, suc, ◌+◌, List, [], ◌∷◌, ◌++◌, Some, Result, Ok, Err, IfOk, length, slice_get, sym, subst, arith}
use Rattle.recorded_sessions.specs.Telling.{AreKnown, Explaining, IsKnown}
use Rattle.recorded_sessions.specs.declared.telling.Told.{Told}

-- what is so of an answer
pub ok_then : {A E : Type 0} (P Q : A → Type 0) (r : Result A E) → ((a : A) → P a → Q a) → IfOk r P → IfOk r Q
ok_then P Q (Ok a) f h = f a h
ok_then P Q (Err e) f h = tt

-- the one that is put behind others
pub put_behind : {A : Type 0} (P : ℕ → A → Type 0) (xs : List A) (x : A) → ((k : ℕ) (y : A) → slice_get xs k ≡ Some y → P k y) → P (length xs) x
    → (k : ℕ) (y : A) → slice_get (xs ++ x ∷ []) k ≡ Some y → P k y
put_behind P [] x each one zero y at = subst (P zero) (same x y at) one where
  same : {A : Type 0} (a b : A) → Some a ≡ Some b → a ≡ b
  same a b h = Prim.grind (arith, h)
put_behind P [] x each one (suc k) y at = absurd (Prim.grind (arith, at))
put_behind P (z ∷ xs) x each one zero y at = each zero y at
put_behind P (z ∷ xs) x each one (suc k) y at = put_behind (λ n w. P (suc n) w) xs x (λ n w is. each (suc n) w is) one k y at

pub known_more : (explains : Explaining) (tells : List Told) (t : Told) (index : ℕ) → length tells ≡ index → AreKnown explains tells
    → IsKnown (explains (index + 1)) t → AreKnown explains (tells ++ t ∷ [])
known_more explains tells t index is known one =
    put_behind (λ k x. IsKnown (explains (k + 1)) x) tells t known (subst (λ n. IsKnown (explains (n + 1)) t) (sym is) one)
