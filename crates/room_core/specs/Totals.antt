-- An object to try the definitions on: counters with a greatest value, of which counter 0 is a total. A call names
-- counter 0 and another, and adds an amount to both.
use Rattle.std.specs.Prelude.{ℕ, ◌+◌, ◌≤◌, ◌<◌, List, [], ◌∷◌, Some, None, Result, Ok, Err, ◌&&◌, nat_lt, nat_le, if◌then◌else◌}
use Rattle.room_core.specs.Machine.{Event, Take, Commit, Give}
use Rattle.room_core.specs.Parts.{AreGood, numbers}
use Rattle.room_core.specs.Whole.{Meaning}

-- both with the amount more, and the total; or the first that would be too great
abbrev pub both_more : ℕ → ℕ → List ℕ → Result (List ℕ × ℕ) ℕ
both_more most amount (p ∷ q ∷ []) =
    if nat_le (p + amount) most then (if nat_le (q + amount) most then Ok ((p + amount) ∷ (q + amount) ∷ [], p + amount) else Err q) else Err p
both_more most amount ps = Err 0

-- for so many counters
abbrev pub counters : ℕ → ℕ → Meaning ℕ (ℕ × ℕ) ℕ ℕ
counters count most = record {
  names = λ c. 0 ∷ c.0 ∷ [];
  refuses = λ c. if nat_lt 0 c.0 && nat_lt c.0 count then None else Some c.0;
  applied = λ ps c. both_more most c.1 ps;
}

abbrev pub at_most : ℕ → ℕ → ℕ → Type 0
at_most most n p = p ≤ most

-- from 1 to 32 counters within the bound
abbrev pub CanOpen : ℕ → ℕ → List ℕ → Type 0
CanOpen count most ps = (0 < count) × (count ≤ 32) × AreGood (at_most most) (numbers 0 count) ps

-- Two stations: what is not lawful changes nothing. Station 8 takes what is held, commits on what it does not hold;
-- station 7 uses a number twice, asks for too much, and commits on what it has given back.
abbrev pub worked : List (Event (ℕ × ℕ))
worked =
    Take 7 0 ∷ Take 7 1 ∷ Take 8 1 ∷ Commit 8 1 (1, 2) ∷ Commit 7 1 (1, 5) ∷ Commit 7 1 (1, 1) ∷ Commit 7 2 (1, 6)
    ∷ Give 7 1 ∷ Take 8 1 ∷ Commit 7 3 (1, 1) ∷ Commit 8 1 (1, 1) ∷ Give 7 0 ∷ Take 8 0 ∷ Commit 8 1 (1, 1) ∷ []
