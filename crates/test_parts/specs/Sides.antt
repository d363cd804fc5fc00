-- A small object whose calls name one part each: two numbers, of which an even call is written over the first and an
-- odd one over the second.
use Rattle.std.specs.Prelude.{ℕ, ◌%◌, List, [], ◌∷◌, map, None, Ok}
use Rattle.room_core.specs.Parts.{AreGood, numbers}
use Rattle.room_core.specs.Whole.{Meaning}

abbrev pub sides : Meaning ℕ ℕ ℕ ℕ
sides = record {
  names = λ c. c % 2 ∷ [];
  refuses = λ c. None;
  applied = λ ps c. Ok (map (λ p. c) ps, c);
}

abbrev pub is_any : ℕ → ℕ → Type 0
is_any n p = Unit {0}

abbrev pub AreTwo : List ℕ → Type 0
AreTwo ps = AreGood is_any (numbers 0 2) ps
