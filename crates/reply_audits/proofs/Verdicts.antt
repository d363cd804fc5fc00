-- What has to be shown for what a reply tells to be known, and two ways to say it.
use Rattle.std.proofs.Common.{◌≡◌, ℕ, ◌+◌, ◌≤◌, List, [], ◌∷◌, Bool, true, false, Option, Some, None, Result, Ok, Err, IfOk, cond, nat_le, max, refl, sym, ap, ◌∙◌, subst, arith}
use Rattle.std.proofs.lemmas.Bool.Decides.{nat_tests}
use Rattle.recorded_sessions.specs.Places.{Says}
use Rattle.recorded_sessions.specs.Telling.{Explained, IsKnown}
use Rattle.recorded_sessions.specs.declared.telling.Told.{Told}
use Rattle.recorded_sessions.specs.declared.telling.Told.TheVariants.{Nothing, Own, Point, Least, Same}

pub same_one : {A : Type 0} (x y : A) → Some x ≡ Some y → x ≡ y
same_one x y h = Prim.grind (arith, h)

-- a bound that is met, by its test
when : (t : Bool) (told n k after : ℕ) → nat_le told n ≡ t → cond t (Some k) None ≡ Some after → (told ≤ n) × (k ≡ after)
when true told n k after is e = (Prim.grind (arith, nat_tests, is), Prim.grind (arith, e))
when false told n k after is e = absurd (Prim.grind (arith, e))

pub bound : (t : Bool) (told n k : ℕ) → nat_le told n ≡ t → told ≤ n → cond t (Some k) None ≡ Some k
bound true told n k is less = refl
bound false told n k is less = absurd (Prim.grind (arith, nat_tests, is, less))

-- how a reply is explained
module _ (Explains : Explained) where
  pub own_known : (n : ℕ) → ((told : ℕ) → told ≤ n → Explains told (n + 1) (n ∷ []))
      → ((told after : ℕ) (points : List ℕ) → Explains told after points → (told ≤ n) × (after ≡ n + 1) × (points ≡ n ∷ []))
      → IsKnown Explains (Own n)
  own_known n right only = record {
    right = λ told after e. let w = when (nat_le told n) told n (n + 1) after refl e in subst (λ a. Explains told a (n ∷ [])) w.1 (right told w.0);
    only = λ told after points h. let w = only told after points h in (bound (nat_le told n) told n (n + 1) refl w.0 ∙ ap Some (sym w.1), w.2);
  }

  pub point_known : (n : ℕ) → ((told : ℕ) → told ≤ n → Explains told n [])
      → ((told after : ℕ) (points : List ℕ) → Explains told after points → (told ≤ n) × (after ≡ n) × (points ≡ []))
      → IsKnown Explains (Point n)
  point_known n right only = record {
    right = λ told after e. let w = when (nat_le told n) told n n after refl e in subst (λ a. Explains told a []) w.1 (right told w.0);
    only = λ told after points h. let w = only told after points h in (bound (nat_le told n) told n n refl w.0 ∙ ap Some (sym w.1), w.2);
  }

  pub least_known : (n : ℕ) → ((told : ℕ) → Explains told (max told n) [])
      → ((told after : ℕ) (points : List ℕ) → Explains told after points → (after ≡ max told n) × (points ≡ []))
      → IsKnown Explains (Least n)
  least_known n right only = record {
    right = λ told after e. subst (λ a. Explains told a []) (same_one (max told n) after e) (right told);
    only = λ told after points h. let w = only told after points h in (ap Some (sym w.0), w.1);
  }

  pub same_known : ((told : ℕ) → Explains told told [])
      → ((told after : ℕ) (points : List ℕ) → Explains told after points → (after ≡ told) × (points ≡ []))
      → IsKnown Explains Same
  same_known right only = record {
    right = λ told after e. subst (λ a. Explains told a []) (same_one told after e) (right told);
    only = λ told after points h. let w = only told after points h in (ap Some (sym w.0), w.1);
  }

  pub nothing_known : ((told after : ℕ) (points : List ℕ) → Explains told after points → ⊥) → IsKnown Explains Nothing
  nothing_known none = record {
    right = λ told after e. absurd (clash after e);
    only = λ told after points h. absurd (none told after points h);
  } where
    clash : (x : ℕ) → None ≡ Some x → ⊥
    clash x e = Prim.grind (arith, e)

-- what is known of a reply is known of it however that is said
pub known_too : (One Other : Explained) (t : Told) → ((told after : ℕ) (points : List ℕ) → One told after points → Other told after points)
    → ((told after : ℕ) (points : List ℕ) → Other told after points → One told after points)
    → IsKnown One t → IsKnown Other t
known_too One Other t on back known = record {
  right = λ told after e. on told after _ (known.right told after e);
  only = λ told after points h. known.only told after points (back told after points h);
}

-- what an answer satisfies that is there
pub ok_too : {A E : Type 0} (P Q : A → Type 0) (r : Result A E) → ((a : A) → P a → Q a) → IfOk r P → IfOk r Q
ok_too P Q (Ok a) on h = on a h
ok_too P Q (Err e) on h = tt

-- whether a value is there, and is this one
pub says_there : {A : Type 0} (o : Option A) (x y : A) (t : Bool) → o ≡ Some x → Says t (x ≡ y) → Says t (o ≡ Some y)
says_there o x y true at is = at ∙ ap Some is
says_there o x y false at other = λ e. other (same_one x y (sym at ∙ e))

pub none_there : {A : Type 0} (o : Option A) (y : A) → o ≡ None → o ≡ Some y → ⊥
none_there o y none e = clash y (sym none ∙ e) where
  clash : {A : Type 0} (y : A) → None ≡ Some y → ⊥
  clash y h = Prim.grind (arith, h)
