use Rattle.std.proofs.Common.{◌≡◌, ◌++◌}
use Rattle.std.specs.Vec.Iter.{into_iter_items}
use Rattle.history_points.specs.Slots.{present, IsWhole}
use Rattle.history_points.proofs.places.Places.into_vec.Given as goal

abbrev pub invariant-loop-slot : goal.invariant-loop-slot
invariant-loop-slot g l = record {
  whole : IsWhole (into_iter_items l.slot-iterator);
  so_far : l.parts.items ++ present (into_iter_items l.slot-iterator) ≡ l.fn.self;
}
