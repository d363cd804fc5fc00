use Rattle.std.proofs.Common.{◌≡◌, ◌+◌, ◌*◌, ◌≤◌, length, drop, map}
use Rattle.json_tree.specs.Size.{items_size}
use Rattle.json_tree.specs.View.{tree_of}
use Rattle.otio_tracks.specs.Reading.{each}
use Rattle.otio_tracks.specs.Times.{rate_pair}
use Rattle.otio_tracks.specs.Clips.{entries}
use Rattle.otio_json.specs.Timelines.{next_track, tracks_read}
use Rattle.otio_json.proofs.timeline.add_tracks.Given as goal

abbrev pub invariant-loop-json : goal.invariant-loop-json
invariant-loop-json l = record {
  read : each (next_track (rate_pair l.rate)) (l.tracks, l.table) (map tree_of (drop l.json-index l.children)) ≡ tracks_read (rate_pair l.rate) l.fn.table (map tree_of l.children);
  few : entries l.table + 2 * items_size (map tree_of (drop l.json-index l.children)) ≤ entries l.fn.table + 2 * items_size (map tree_of l.children);
  count : length l.tracks ≡ l.json-index;
}
