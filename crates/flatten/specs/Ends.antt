-- Where runs end.
use Rattle.std.specs.Prelude.{ℕ, zero, suc, ◌+◌, List, [], ◌∷◌}
use Rattle.frame_meaning.specs.declared.frames.Run.{Run}

-- the places where runs end, of which the first begins at this place
abbrev pub ends_of : ℕ → List (Run ℕ) → List ℕ
ends_of at [] = []
ends_of at (r ∷ rs) = (at + r.len) ∷ ends_of (at + r.len) rs

-- the place where the run with an index begins, where these are the ends and the first run begins at this place
abbrev pub begin_of : ℕ → List ℕ → ℕ → ℕ
begin_of at ends zero = at
begin_of at [] (suc i) = at
begin_of at (e ∷ ends) (suc i) = begin_of e ends i
