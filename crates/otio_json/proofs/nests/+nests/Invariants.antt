use Rattle.std.proofs.Common.{◌≡◌, ◌+◌, ◌*◌, ◌≤◌, length, drop, map}
use Rattle.json_tree.specs.Size.{items_size}
use Rattle.json_tree.specs.View.{tree_of}
use Rattle.otio_tracks.specs.Reading.{each}
use Rattle.otio_tracks.specs.Times.{rate_pair}
use Rattle.otio_tracks.specs.Clips.{entries}
use Rattle.otio_tracks.specs.Rows.{row_frames}
use Rattle.otio_json.specs.Nests.{levels_in, nests_in, next_layer, layers_read, child_in, row_read}
use Rattle.otio_json.proofs.Nesting.{levels_of}
use Rattle.otio_json.proofs.nests.+nests.Given as goal

abbrev pub decreases-nest_item : goal.decreases-nest_item
decreases-nest_item l = 16 * levels_of l.nesting

abbrev pub decreases-item : goal.decreases-item
decreases-item l = 16 * levels_of l.nesting + 1

abbrev pub decreases-child : goal.decreases-child
decreases-child l = 16 * levels_of l.nesting + 2

abbrev pub decreases-row : goal.decreases-row
decreases-row l = 16 * levels_of l.nesting + 3

abbrev pub decreases-track : goal.decreases-track
decreases-track l = 16 * levels_of l.nesting + 4

abbrev pub decreases-track_layer : goal.decreases-track_layer
decreases-track_layer l = 16 * l.levels + 5

abbrev pub decreases-one_layer : goal.decreases-one_layer
decreases-one_layer l = 16 * l.levels + 5

abbrev pub decreases-layer : goal.decreases-layer
decreases-layer l = 16 * l.levels + 6

abbrev pub decreases-layers : goal.decreases-layers
decreases-layers l = 16 * l.levels + 7

abbrev pub decreases-nest : goal.decreases-nest
decreases-nest l = 16 * l.levels + 8

abbrev pub invariant-layers-loop-json : goal.invariant-layers-loop-json
invariant-layers-loop-json l = record {
  read : each (next_layer (rate_pair l.rate) (levels_in (rate_pair l.rate) l.levels)) (l.layers, l.table) (map tree_of (drop l.json-index l.children)) ≡ layers_read (rate_pair l.rate) l.levels l.fn.table (map tree_of l.children);
  few : entries l.table + 2 * items_size (map tree_of (drop l.json-index l.children)) ≤ entries l.fn.table + 2 * items_size (map tree_of l.children);
  count : length l.layers + items_size (map tree_of (drop l.json-index l.children)) ≤ items_size (map tree_of l.children);
}

abbrev pub invariant-row-loop-json : goal.invariant-row-loop-json
invariant-row-loop-json l = record {
  read : each (child_in (rate_pair l.rate) (nests_in (rate_pair l.rate) l.nesting)) (l.row, l.table) (map tree_of (drop l.json-index l.children)) ≡ row_read (rate_pair l.rate) l.nesting l.fn.table (map tree_of l.children);
  few : entries l.table + 2 * items_size (map tree_of (drop l.json-index l.children)) ≤ entries l.fn.table + 2 * items_size (map tree_of l.children);
  frames : row_frames l.row + 4294967296 * items_size (map tree_of (drop l.json-index l.children)) ≤ 4294967296 * items_size (map tree_of l.children);
}
