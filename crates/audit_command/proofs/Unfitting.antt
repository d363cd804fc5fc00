-- Entries that come to something: no front of them comes to nothing.
use Rattle.std.proofs.Common.{◌≡◌, ℕ, zero, suc, List, [], ◌∷◌, Option, Some, None, IsSome, Result, fold, take, refl, ap, ◌∙◌, arith}
use Rattle.room_core.specs.declared.entry.Entry.{Entry}
use Rattle.room_core.specs.History.{after_entry, replay}

module _ {S C D R : Type 0} (apply : S → C → Result (S × D) R) where
  stays_none : (es : List (Entry C)) → fold (after_entry apply) None es ≡ None
  stays_none [] = refl
  stays_none (e ∷ es) = stays_none es

  some_none : {A : Type 0} (o : Option A) → o ≡ None → IsSome o → ⊥
  some_none None is some = Prim.grind (arith, some)
  some_none (Some a) is some = Prim.grind (arith, is)

  front_some : (n : ℕ) (s : Option S) (es : List (Entry C)) → IsSome (fold (after_entry apply) s es) → fold (after_entry apply) s (take n es) ≡ None → ⊥
  front_some zero s es all none = some_none (fold (after_entry apply) s es) (ap (λ o. fold (after_entry apply) o es) none ∙ stays_none es) all
  front_some (suc n) s [] all none = some_none s none all
  front_some (suc n) s (e ∷ es) all none = front_some n (after_entry apply s e) es all none

  pub front_comes : (n : ℕ) (s : S) (es : List (Entry C)) → IsSome (replay apply s es) → replay apply s (take n es) ≡ None → ⊥
  front_comes n s es all none = front_some n (Some s) es all none
