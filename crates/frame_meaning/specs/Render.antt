-- The frames that a track shows. OpenTimelineIO's transition; the weights are this project's own: frame k of a
-- dissolve of n frames, from 0, shows the incoming side with weight (k + 1) / (n + 1).
use Rattle.std.specs.Prelude.{ℕ, ◌+◌, ◌-◌, List, Option, Some, None, map, length, slice_index_or}
use Rattle.std.specs.List.{range_with_len}
use Rattle.frame_meaning.specs.declared.cells.What.{What}
use Rattle.frame_meaning.specs.declared.cells.Mark.{Mark}
use Rattle.frame_meaning.specs.declared.cells.Cell.{Cell}
use Rattle.frame_meaning.specs.declared.frames.Side.{Side}
use Rattle.frame_meaning.specs.declared.frames.Side.TheVariants as side
use Rattle.frame_meaning.specs.declared.frames.Frame.{Frame}
use Rattle.frame_meaning.specs.declared.frames.Frame.TheVariants as frame
use Rattle.frame_meaning.specs.Cells.{dark_cell}
use Rattle.frame_meaning.specs.Marks.{dissolve_from}

-- a frame that shows one side and no other
abbrev pub frame_of : {W : Type 0} → Side W → Frame W
frame_of side.Dark = frame.Dark
frame_of (side.Pic what source) = frame.Pic what source

-- what a side shows when its source runs on by some frames and back by some
abbrev pub moved : {W : Type 0} → Side W → ℕ → ℕ → Side W
moved side.Dark on back = side.Dark
moved (side.Pic what source) on back = side.Pic what (source + on - back)

abbrev pub cell_at : List Cell → ℕ → Cell
cell_at cells p = slice_index_or cells p dark_cell

-- the mix at place q of a dissolve (a, b) at the cut p: what cell p - 1 shows going on, and what cell p shows moved
-- as far from its place
abbrev pub mix_at : List Cell → ℕ → Mark → ℕ → Frame What
mix_at cells p m q =
    frame.Mix (moved (cell_at cells (p - 1)).side (q + 1) p) (moved (cell_at cells p).side q p) (q + m.a - p + 1) (m.a + m.b + 1)

abbrev pub shown_in : List Cell → Option (ℕ × Option Mark) → ℕ → Frame What
shown_in cells None q = frame_of (cell_at cells q).side
shown_in cells (Some (p, None)) q = frame_of (cell_at cells q).side
shown_in cells (Some (p, Some m)) q = mix_at cells p m q

-- the frame shown at a place: the cell's side, except in the footprint of a mark
abbrev pub shown_at : List Cell → ℕ → Frame What
shown_at cells q = shown_in cells (dissolve_from 0 cells q) q

-- the frames shown by a track of these cells
abbrev pub render : List Cell → List (Frame What)
render cells = map (shown_at cells) (range_with_len 0 (length cells))
