use Rattle.std.proofs.Common.{◌≡◌, ◌+◌, Some, drop, length, map}
use Rattle.std.specs.Vec.Iter.{into_iter_items}
use Rattle.room_core.specs.Whole.{put_back}
use Rattle.history_points.proofs.places.put_in.Given as goal

abbrev pub invariant-loop-part : goal.invariant-loop-part
invariant-loop-part g l = record {
  places : length l.slots.items ≡ length l.fn.slots.items;
  to_come : l.at + length (into_iter_items l.part-iterator) ≡ length l.names;
  put : put_back l.slots.items (drop l.at l.names) (map Some (into_iter_items l.part-iterator)) ≡ put_back l.fn.slots.items l.names (map Some l.fn.named.items);
}
