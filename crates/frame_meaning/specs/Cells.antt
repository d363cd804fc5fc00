-- Cells of a track, one for each frame: what each belongs to and shows.
use Rattle.std.specs.Prelude.{ℕ, zero, suc, ◌+◌, Bool, true, false, List, [], ◌∷◌, Option, Some, None, ◌==◌}
use Rattle.frame_meaning.specs.declared.cells.What.{What}
use Rattle.frame_meaning.specs.declared.cells.Link.{Link}
use Rattle.frame_meaning.specs.declared.cells.Cell.{Cell}
use Rattle.frame_meaning.specs.declared.frames.Side.{Side}
use Rattle.frame_meaning.specs.declared.frames.Side.TheVariants.{Dark, Pic}

-- what a side shows one frame later
abbrev pub next_side : {W : Type 0} → Side W → Side W
next_side Dark = Dark
next_side (Pic what source) = Pic what (source + 1)

-- what it shows n frames later
abbrev pub later_side : {W : Type 0} → Side W → ℕ → Side W
later_side Dark n = Dark
later_side (Pic what source) n = Pic what (source + n)

abbrev pub dark_cell : Cell
dark_cell = record { item = None; side = Dark; mark = None; link = None }

-- n cells of one item or gap, of which the first shows this
abbrev pub span : Option ℕ → Side What → Option Link → ℕ → List Cell
span item side link zero = []
span item side link (suc n) = record { item = item; side = side; mark = None; link = link } ∷ span item (next_side side) link n

abbrev pub same_number : Option ℕ → Option ℕ → Bool
same_number None None = true
same_number None (Some j) = false
same_number (Some i) None = false
same_number (Some i) (Some j) = i == j

-- two cells belong to one item, or both are dark
abbrev pub belong : Cell → Cell → Bool
belong c d = same_number c.item d.item
