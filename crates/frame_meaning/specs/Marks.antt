-- Dissolves at cuts: the footprint of a mark at place p is [p - a, p + b).
use Rattle.std.specs.Prelude.{ℕ, ◌+◌, Bool, false, ◌&&◌, List, [], ◌∷◌, Option, Some, None, nat_le, nat_lt, if◌then◌else◌}
use Rattle.frame_meaning.specs.declared.cells.Mark.{Mark}
use Rattle.frame_meaning.specs.declared.cells.Cell.{Cell}

-- place q lies in the footprint of a mark at place p
abbrev pub covers : Option Mark → ℕ → ℕ → Bool
covers None p q = false
covers (Some m) p q = nat_le p (q + m.a) && nat_lt q (p + m.b)

-- the cut whose mark's footprint holds the place q, and the mark; the first of these cells stands at the place p
abbrev pub dissolve_from : ℕ → List Cell → ℕ → Option (ℕ × Option Mark)
dissolve_from p [] q = None
dissolve_from p (c ∷ cs) q = if covers c.mark p q then Some (p, c.mark) else dissolve_from (p + 1) cs q
