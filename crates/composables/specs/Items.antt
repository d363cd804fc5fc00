-- The items and gaps of a track's cells. A gap is a maximal run of dark cells.
use Rattle.std.specs.Prelude.{ℕ, ◌+◌, List, [], ◌∷◌, Option, None, ◌==◌, if◌then◌else◌}
use Rattle.std.specs.List.{flat_map}
use Rattle.frame_meaning.specs.declared.cells.Mark.{Mark}
use Rattle.frame_meaning.specs.declared.cells.Cell.{Cell}
use Rattle.frame_meaning.specs.Cells.{span, later_side, same_number}
use Rattle.composables.specs.declared.items.ItemView.{ItemView}

-- the mark stands at the first cell
abbrev pub marked : Option Mark → List Cell → List Cell
marked mark [] = []
marked mark (c ∷ cs) = record c { mark = mark } ∷ cs

-- the cells of an item or gap
abbrev pub view_cells : ItemView → List Cell
view_cells v = marked v.mark (span v.item v.first v.link v.len)

-- its cell k frames after its first
abbrev pub cell_in : ItemView → ℕ → Cell
cell_in v k = record { item = v.item; side = later_side v.first k; mark = if k == 0 then v.mark else None; link = v.link }

-- the cells of items and gaps, one after another
abbrev pub cells_of : List ItemView → List Cell
cells_of views = flat_map view_cells views

-- a cell in front of an item or gap that goes on for some frames
abbrev pub view_from : Cell → ℕ → ItemView
view_from c more = record { item = c.item; first = c.side; len = more + 1; mark = c.mark; link = c.link }

-- the items and gaps after one more cell in front
abbrev pub with_cell : Cell → List ItemView → List ItemView
with_cell c [] = view_from c 0 ∷ []
with_cell c (v ∷ vs) = if same_number c.item v.item then view_from c v.len ∷ vs else view_from c 0 ∷ v ∷ vs

-- the items and gaps of cells: each is a maximal run of cells that belong to one item, or are dark
abbrev pub items_of : List Cell → List ItemView
items_of [] = []
items_of (c ∷ cs) = with_cell c (items_of cs)
