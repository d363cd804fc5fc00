-- The place where bytes stop being lawful is the only one.
use Rattle.std.proofs.Common.{◌≡◌, ℕ, zero, suc, ◌+◌, ◌<◌, ◌≤◌, List, [], ◌∷◌, ◌++◌, length, take, refl, ap, subst, arith}
use Rattle.std.proofs.Math.Nat.{lt_of_not-le}
use Rattle.json_tokens.specs.Faults.{IsLawful, StopsAt}
use Rattle.json_tree.specs.Faults.{Begins}
use Rattle.json_tree.proofs.QuotedValues.{lawful_front}

take_less : (few many : ℕ) (bytes : List ℕ) → few ≤ many → (rest : List ℕ) × (take many bytes ≡ take few bytes ++ rest)
take_less zero many bytes le = (take many bytes, refl)
take_less (suc few) zero bytes le = absurd (omega (arith, le))
take_less (suc few) (suc many) [] le = ([], refl)
take_less (suc few) (suc many) (b ∷ bytes) le = let t = take_less few many bytes (omega (arith, le)) in (t.0, ap (λ (l : List ℕ). b ∷ l) t.1)

pub lawful_fewer : (few many : ℕ) (bytes : List ℕ) → few ≤ many → IsLawful (Begins 64) (take many bytes) → IsLawful (Begins 64) (take few bytes)
lawful_fewer few many bytes le h = let t = take_less few many bytes le in lawful_front (take few bytes) t.0 (subst (IsLawful (Begins 64)) t.1 h)

-- up to no place behind the stop are the bytes lawful
pub stops_behind : (bytes : List ℕ) (stop place : ℕ) → StopsAt (Begins 64) bytes stop → place ≤ length bytes → IsLawful (Begins 64) (take place bytes) → place ≤ stop
stops_behind bytes stop place s le h =
    let below : place < stop + 1 = lt_of_not-le (λ l. s.no_more (omega (arith, l, le)) (lawful_fewer (stop + 1) place bytes l h)) in
    omega (arith, below)

pub one_stop : (bytes : List ℕ) (m n : ℕ) → StopsAt (Begins 64) bytes m → StopsAt (Begins 64) bytes n → m ≡ n
one_stop bytes m n s r =
    let a : m ≤ n = stops_behind bytes n m r s.within s.lawful in
    let b : n ≤ m = stops_behind bytes m n s r.within r.lawful in
    omega (arith, a, b)
