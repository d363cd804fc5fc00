-- The law of the registers.
use Rattle.std.proofs.Common.{◌≡◌, ℕ, zero, suc, ◌+◌, ◌<◌, ◌≤◌, replicate, Bool, true, false, nat_lt, Some, None, refl, arith, if◌then◌else◌}
use Rattle.std.proofs.lemmas.Bool.Decides.{nat_tests}
use Rattle.room_core.specs.Parts.{AreGood, IsNaming, numbers}
use Rattle.test_counters.specs.Registers.{registers, is_any, CanOpen}

not_refused : (n count : ℕ) (a : Bool) → nat_lt n count ≡ a → (if a then None else Some n) ≡ None → n < count
not_refused n count true h e = Prim.grind (arith, nat_tests, h)
not_refused n count false h e = absurd (Prim.grind (arith, e))

pub registers-named : (count : ℕ) (c : ℕ × ℕ) → (registers count).refuses c ≡ None → IsNaming count ((registers count).names c)
registers-named count c e =
    let there = not_refused c.0 count (nat_lt c.0 count) refl e in
    record { some = omega arith; ascend = (omega arith, there, tt) }

numbers_any : (from count : ℕ) → AreGood is_any (numbers from count) (replicate count 0)
numbers_any from zero = tt
numbers_any from (suc count) = (tt, numbers_any (from + 1) count)

-- registers that are all 0 are an opening
pub zeros_open : (count : ℕ) → 0 < count → count ≤ 32 → CanOpen count (replicate count 0)
zeros_open count some few = (some, few, numbers_any 0 count)
