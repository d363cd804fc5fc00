-- The items that a call links: each by its number on its track, with the record frame at which it begins; and tracks of
-- which an item has another link.
use Rattle.std.specs.Prelude.{ℕ, ◌+◌, List, [], ◌∷◌, ◌++◌, Option, Some, None, map, take, drop, if◌then◌else◌}
use Rattle.frame_meaning.specs.declared.cells.Cell.{Cell}
use Rattle.frame_meaning.specs.declared.cells.Link.{Link}
use Rattle.frame_meaning.specs.Cells.{same_number}
use Rattle.composables.specs.declared.items.ItemView.{ItemView}
use Rattle.composables.specs.Items.{items_of}
use Rattle.composables.specs.TrackState.{TrackState}

-- the item with this number and the frame at which it begins, where the first of these items and gaps begins at x
abbrev pub item_from : ℕ → List ItemView → ℕ → Option (ℕ × ItemView)
item_from x [] i = None
item_from x (v ∷ vs) i = if same_number v.item (Some i) then Some (x, v) else item_from (x + v.len) vs i

-- the item of a track with this number, if there is one
abbrev pub item_of : TrackState → ℕ → Option (ℕ × ItemView)
item_of t i = item_from 0 (items_of t.cells) i

-- the cells at the places [x, y) with this link, or none
abbrev pub linked_on : ℕ → ℕ → Option Link → List Cell → List Cell
linked_on x y link cells = (take x cells ++ map (λ (c : Cell). record c { link = link }) (drop x (take y cells))) ++ drop y cells

-- and at the record frames of an item that was found
abbrev pub linked_found : List Cell → Option Link → Option (ℕ × ItemView) → List Cell
linked_found cells link None = cells
linked_found cells link (Some (x, v)) = linked_on x (x + v.len) link cells

-- the track with this link, or none, at the record frames of one of its items
abbrev pub linked_item : TrackState → ℕ → Option Link → TrackState
linked_item t i link = record t { cells = linked_found t.cells link (item_of t i) }
