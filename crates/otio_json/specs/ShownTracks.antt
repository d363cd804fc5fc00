-- What a track of a document shows: what its children show, one after another.
use Rattle.std.specs.Prelude.{◌≡◌, ℕ, zero, suc, List, [], ◌∷◌, ◌++◌, map, Result, Ok}
use Rattle.std.specs.List.{flat_map}
use Rattle.frame_meaning.specs.declared.cells.What.{What}
use Rattle.frame_meaning.specs.declared.cells.Cell.{Cell}
use Rattle.frame_meaning.specs.declared.frames.Side.{Side}
use Rattle.frame_meaning.specs.Cells.{next_side}
use Rattle.composables.specs.declared.media.Table.{Table}
use Rattle.composables.specs.TrackState.{TrackState}
use Rattle.json_tokens.specs.Reading.{◌>>=◌}
use Rattle.json_tree.specs.Tree.{Tree}
use Rattle.otio_tracks.specs.declared.faults.DocCode.{DocCode}
use Rattle.otio_tracks.specs.declared.values.Schema.{Schema}
use Rattle.otio_tracks.specs.declared.values.Schema.TheVariants.{Clip, Gap, Stack, Track, Transition, Other}
use Rattle.otio_tracks.specs.declared.parts.Part.{Part}
use Rattle.otio_tracks.specs.Reading.{Read, each}
use Rattle.otio_tracks.specs.Values.{schema_read}
use Rattle.otio_json.specs.Nests.{Inner, item_in, track_in}

-- what so many frames show, of which the first shows this
abbrev pub sides_from : Side What → ℕ → List (Side What)
sides_from side zero = []
sides_from side (suc n) = side ∷ sides_from (next_side side) n

-- what an item or gap shows, frame by frame
abbrev pub sides_of : Part → List (Side What)
sides_of p = sides_from p.first p.len

-- what cells show
abbrev pub sides_in : List Cell → List (Side What)
sides_in cells = map (λ (c : Cell). c.side) cells

module _ (rate : ℕ × ℕ) (inner : Result Inner DocCode) where
  -- an item more, and the table with what it shows
  abbrev pub next_item : Schema × ℕ → List Part × Table → Tree → Read (List Part × Table)
  next_item found state t = do
    item ← item_in rate inner found.0 found.1 state.1 t
    Ok (state.0 ++ item.0 ∷ [], item.1)

  -- a transition is no item
  abbrev pub item_by : Schema × ℕ → List Part × Table → Tree → Read (List Part × Table)
  item_by (Transition, at) state t = Ok state
  item_by (Clip references, at) state t = next_item (Clip references, at) state t
  item_by (Gap, at) state t = next_item (Gap, at) state t
  item_by (Stack, at) state t = next_item (Stack, at) state t
  item_by (Track, at) state t = next_item (Track, at) state t
  item_by (Other, at) state t = next_item (Other, at) state t

  abbrev pub item_of_child : List Part × Table → Tree → Read (List Part × Table)
  item_of_child state t = schema_read t >>= λ found. item_by found state t

  -- the items and gaps that these children are, as they stand, and the table after them
  abbrev pub items_in : Table → List Tree → Read (List Part × Table)
  items_in table children = each item_of_child ([], table) children

-- A track that is read shows what its children's items and gaps show, one after another, whatever nests stand in it.
abbrev pub TracksShowTheirItems : Type 0
TracksShowTheirItems = (rate : ℕ × ℕ) (inner : Result Inner DocCode) (number : ℕ) (table : Table) (children : List Tree) (at : ℕ) (read : TrackState × Table)
    → track_in rate inner number table children at ≡ Ok read
    → (items : List Part) × (items_in rate inner table children ≡ Ok (items, read.1)) × (sides_in read.0.cells ≡ flat_map sides_of items)
