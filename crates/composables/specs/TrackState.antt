-- What a track is: its number, a list of cells, one for each frame, and its next item and link numbers.
use Rattle.std.specs.Prelude.{ℕ, ◌+◌, List, [], ◌∷◌, ◌++◌, Option, Some, None, max, take, drop}
use Rattle.frame_meaning.specs.declared.cells.Cell.{Cell}
use Rattle.composables.specs.declared.items.ItemView.{ItemView}
use Rattle.composables.specs.Items.{view_cells, cells_of, items_of}

pub record TrackState : Type 0 where
  pub number : ℕ
  pub cells : List Cell
  pub next_item : ℕ
  pub next_link : ℕ

-- the next item number once an item or gap was put in
abbrev pub next_past : ℕ → Option ℕ → ℕ
next_past next None = next
next_past next (Some i) = max next (i + 1)

-- and once each of these was
abbrev pub next_past_all : ℕ → List ItemView → ℕ
next_past_all next [] = next
next_past_all next (v ∷ vs) = next_past_all (next_past next v.item) vs

-- the track with an item or gap more at its end
abbrev pub pushed : TrackState → ItemView → TrackState
pushed t v = record t { cells = t.cells ++ view_cells v; next_item = next_past t.next_item v.item }

-- the track with these in place of its items and gaps from index from up to before to
abbrev pub replaced : TrackState → ℕ → ℕ → List ItemView → TrackState
replaced t from to views = record t {
  cells = (cells_of (take from (items_of t.cells)) ++ cells_of views) ++ cells_of (drop to (items_of t.cells));
  next_item = next_past_all t.next_item views;
}
