-- What is counted of each part.
use Rattle.std.proofs.Common.{◌≡◌, ◌≤◌, ◌<◌, ◌+◌, ◌*◌, ℕ, zero, suc, List, [], ◌∷◌, fold, map, length, sum_by, refl}
use Rattle.std.proofs.Common.{sym, ap, ◌∙◌, arith}
use Rattle.take_back.specs.declared.kept.Kept.{Kept}

cost_from : {P : Type 0} (size : P → ℕ) (a : ℕ) (ks : List (Kept P))
    → a + length ks ≤ fold (λ b (k : Kept P). b + (size k.now + 64)) a ks
cost_from size a [] = omega arith
cost_from size a (k ∷ ks) = let rest = cost_from size (a + (size k.now + 64)) ks in omega (arith, rest)

pub many_cost : {P : Type 0} (size : P → ℕ) (ks : List (Kept P))
    → length ks ≤ 32 * sum_by (λ (k : Kept P). size k.now + 64) ks
many_cost size ks = let all = cost_from size 0 ks in omega (arith, all)

pub cost_within : {P : Type 0} (size : P → ℕ) (ks : List (Kept P)) (old new : ℕ) → new ≤ old + length ks
    → new ≤ old + 32 * sum_by (λ (k : Kept P). size k.now + 64) ks
cost_within size ks old new h = let all = many_cost size ks in omega (arith, all, h)
