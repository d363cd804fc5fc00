use Rattle.std.proofs.Common.{◌≡◌, ◌++◌}
use Rattle.std.specs.Vec.Iter.{into_iter_items}
use Rattle.history_points.specs.Slots.{present, IsWhole}
use Rattle.history_points.proofs.places.Places.of.Given as goal

abbrev pub invariant-loop-part : goal.invariant-loop-part
invariant-loop-part g l = record {
  whole : IsWhole l.slots.items;
  so_far : present l.slots.items ++ into_iter_items l.part-iterator ≡ l.fn.parts.items;
}
