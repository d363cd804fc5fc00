-- The laws of the counters.
use Rattle.std.proofs.Common.{◌≡◌, ℕ, ◌<◌, Bool, true, false, ◌&&◌, nat_lt, Some, None, refl, arith, if◌then◌else◌}
use Rattle.std.proofs.lemmas.Bool.Decides.{nat_tests}
use Rattle.room_core.specs.Parts.{IsNaming}
use Rattle.room_core.specs.Totals.{counters}

not_refused : (n count : ℕ) (a b : Bool) → nat_lt 0 n ≡ a → nat_lt n count ≡ b → (if a && b then None else Some n) ≡ None → (0 < n) × (n < count)
not_refused n count true true h k e = (Prim.grind (arith, nat_tests, h), Prim.grind (arith, nat_tests, k))
not_refused n count true false h k e = absurd (Prim.grind (arith, e))
not_refused n count false b h k e = absurd (Prim.grind (arith, e))

pub counters-named : (count most : ℕ) (c : ℕ × ℕ) → (counters count most).refuses c ≡ None → IsNaming count ((counters count most).names c)
counters-named count most c e =
    let there = not_refused c.0 count (nat_lt 0 c.0) (nat_lt c.0 count) refl refl e in
    record { some = omega arith; ascend = (omega arith, omega (arith, there.0, there.1), (omega (arith, there.0), there.1, tt)) }
