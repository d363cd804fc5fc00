-- Two pairs that are told to be equal are one.
use Rattle.std.proofs.Common.{◌≡◌, ◌==◌, ◌&&◌, ℕ, true, arith}
use Rattle.std.proofs.lemmas.Bool.Decides.{nat_tests}

pub one_pair : (x y : ℕ × ℕ) → ((x.0 == y.0) && (x.1 == y.1)) ≡ true → x ≡ y
one_pair x y h =
    let first : x.0 ≡ y.0 = Prim.grind (arith, nat_tests, h) in
    let second : x.1 ≡ y.1 = Prim.grind (arith, nat_tests, h) in
    λ i. (first i, second i)
