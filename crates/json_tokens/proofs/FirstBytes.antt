-- Bytes that begin with the same byte, or both end.
use Rattle.std.proofs.Common.{◌≡◌, ℕ, List, [], ◌∷◌, ◌++◌, refl, sym, ap}

abbrev pub SameFirst : List ℕ → List ℕ → Type 0
SameFirst [] [] = Unit {0}
SameFirst [] (c ∷ cs) = ⊥
SameFirst (b ∷ bs) [] = ⊥
SameFirst (b ∷ bs) (c ∷ cs) = b ≡ c

pub same_itself : (bytes : List ℕ) → SameFirst bytes bytes
same_itself [] = tt
same_itself (b ∷ bs) = refl

pub same_behind : (front rest other : List ℕ) → SameFirst rest other → SameFirst (front ++ rest) (front ++ other)
same_behind [] rest other h = h
same_behind (b ∷ bs) rest other h = refl

pub same_none : (other : List ℕ) → SameFirst [] other → other ≡ []
same_none [] h = refl
same_none (c ∷ cs) h = absurd h

pub same_some : (b : ℕ) (bs other : List ℕ) → SameFirst (b ∷ bs) other → (more : List ℕ) × (other ≡ b ∷ more)
same_some b bs [] h = absurd h
same_some b bs (c ∷ cs) h = (cs, ap (λ (d : ℕ). d ∷ cs) (sym h))
