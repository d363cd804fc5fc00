-- The items or gaps beside record frames [x, y) of a track, and how far what stands between them may move: the one that
-- it comes near keeps a frame, and the other grows by frames that its thing has.
use Rattle.std.specs.Prelude.{ℕ, ◌+◌, ◌-◌, Bool, ◌&&◌, List, [], ◌∷◌, nat_lt, length, ℤ, if◌then◌else◌}
use Rattle.frame_meaning.specs.declared.cells.Cell.{Cell}
use Rattle.frame_meaning.specs.Render.{cell_at}
use Rattle.composables.specs.declared.items.ItemView.{ItemView}
use Rattle.composables.specs.declared.media.Table.{Table}
use Rattle.composables.specs.Items.{items_of}
use Rattle.composables.specs.TrackState.{TrackState}
use Rattle.edit_delta.specs.Nearest.{by_sign}
use Rattle.edit_delta.specs.Reaching.{has_after, has_before, keeps_a_cell}

-- the record frames of the item or gap that holds a place q frames behind the first of these, which begins at x; none
-- beyond their end
abbrev pub range_at : ℕ → List ItemView → ℕ → ℕ × ℕ
range_at x [] q = (x, x)
range_at x (v ∷ vs) q = if nat_lt q v.len then (x, x + v.len) else range_at (x + v.len) vs (q - v.len)

-- where the item or gap that holds a place of a track begins, and where it ends
abbrev pub begin_at : List Cell → ℕ → ℕ
begin_at cells q = (range_at 0 (items_of cells) q).0

abbrev pub end_at : List Cell → ℕ → ℕ
end_at cells q = (range_at 0 (items_of cells) q).1

-- something stands before the place x, and from the place y on
abbrev pub has_neighbours : List Cell → ℕ → ℕ → Bool
has_neighbours cells x y = nat_lt 0 x && nat_lt y (length cells)

-- what stands on [x, y) may move n frames later: what stands behind keeps a frame, and what stands before goes on
abbrev pub may_move_later : Table → TrackState → ℕ → ℕ → ℕ → Bool
may_move_later table t x y n = keeps_a_cell y (end_at t.cells y) n && has_after table (cell_at t.cells (x - 1)).side n

-- and n frames earlier: what stands before keeps a frame, and what stands behind reaches back
abbrev pub may_move_earlier : Table → TrackState → ℕ → ℕ → ℕ → Bool
may_move_earlier table t x y n = keeps_a_cell (begin_at t.cells (x - 1)) x n && has_before table (cell_at t.cells y).side n

-- the deltas that are allowed between two neighbours
abbrev pub move_allows : Table → TrackState → ℕ → ℕ → ℤ → Bool
move_allows table t x y = by_sign (may_move_later table t x y) (may_move_earlier table t x y)
