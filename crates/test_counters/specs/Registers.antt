-- An object to try a journal on: registers. A call writes a number into one of them, and answers it.
use Rattle.std.specs.Prelude.{ℕ, ◌<◌, ◌≤◌, List, [], ◌∷◌, map, Some, None, Ok, nat_lt, if◌then◌else◌}
use Rattle.room_core.specs.Parts.{AreGood, numbers}
use Rattle.room_core.specs.Whole.{Meaning}

-- for so many registers: the number of the register, and what is written
abbrev pub registers : ℕ → Meaning ℕ (ℕ × ℕ) ℕ ℕ
registers count = record {
  names = λ c. c.0 ∷ [];
  refuses = λ c. if nat_lt c.0 count then None else Some c.0;
  applied = λ ps c. Ok (map (λ p. c.1) ps, c.1);
}

abbrev pub is_any : ℕ → ℕ → Type 0
is_any n p = Unit {0}

-- from 1 to 32 registers
abbrev pub CanOpen : ℕ → List ℕ → Type 0
CanOpen count ps = (0 < count) × (count ≤ 32) × AreGood is_any (numbers 0 count) ps
