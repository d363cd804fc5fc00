-- Bytes that are given piece by piece.
use Rattle.std.specs.Prelude.{◌≡◌, ◌++◌, ◌∷◌, [], ℕ, List, Vec, length, take, drop, map, min}
use Rattle.std.specs.Global.{Global}

-- the pieces, one after the other
abbrev pub joined : List (List ℕ) → List ℕ
joined [] = []
joined (p ∷ ps) = p ++ joined ps

-- without the empty pieces at the front
abbrev pub without_empty : List (List ℕ) → List (List ℕ)
without_empty [] = []
without_empty ([] ∷ ps) = without_empty ps
without_empty ((b ∷ bs) ∷ ps) = (b ∷ bs) ∷ ps

-- the piece at the front
abbrev pub first_piece : List (List ℕ) → List ℕ
first_piece [] = []
first_piece (p ∷ ps) = p

-- n bytes further in the piece at the front
abbrev pub further : ℕ → List (List ℕ) → List (List ℕ)
further n [] = []
further n (p ∷ ps) = drop n p ∷ ps

-- A read passes over empty pieces. It gives the rest of the next piece, or as much of it as the buffer has room
-- for, and what stood behind that in the buffer stays.
pub record Reads (before after : List (List ℕ)) (room buffer : List ℕ) (n : ℕ) : Type 0 where
  pub count : n ≡ min (length room) (length (first_piece (without_empty before)))
  pub bytes : buffer ≡ take n (first_piece (without_empty before)) ++ drop n room
  pub rest : after ≡ further n (without_empty before)

-- what vectors hold
abbrev pub contents_of : List (Vec ℕ Global) → List (List ℕ)
contents_of pieces = map (λ p. p.items) pieces

-- what is left of pieces from the piece of that number on, and from that byte of it
abbrev pub left_from : List (Vec ℕ Global) → ℕ → ℕ → List (List ℕ)
left_from pieces piece at = further at (contents_of (drop piece pieces))
