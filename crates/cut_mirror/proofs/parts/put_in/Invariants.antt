use Rattle.std.proofs.Common.{◌≡◌, ◌+◌, drop, length}
use Rattle.std.specs.Vec.Iter.{into_iter_items}
use Rattle.room_core.specs.Whole.{put_back}
use Rattle.cut_mirror.proofs.parts.put_in.Given as goal

abbrev pub invariant-loop-part : goal.invariant-loop-part
invariant-loop-part g l = record {
  places : length l.parts.items ≡ length l.fn.parts.items;
  to_come : l.at + length (into_iter_items l.part-iterator) ≡ length l.names;
  put : put_back l.parts.items (drop l.at l.names) (into_iter_items l.part-iterator) ≡ put_back l.fn.parts.items l.names
      l.fn.named.items;
}
