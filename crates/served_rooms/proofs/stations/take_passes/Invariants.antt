use Rattle.std.proofs.Common.{◌≡◌, ◌++◌, map, vec_capacity}
use Rattle.std.specs.Vec.Iter.{into_iter_items}
use Rattle.served_rooms.specs.Seated.{LeftState}
use Rattle.served_rooms.proofs.stations.take_passes.Given as goal

abbrev pub invariant-loop-station : goal.invariant-loop-station
invariant-loop-station g l = record {
  so_far : l.yielded ++ into_iter_items l.station-iterator ≡ l.fn.left.items;
  room : vec_capacity l.passes ≡ vec_capacity l.fn.passes;
  taken : l.passes.items ≡ map (λ (x : LeftState). x.pass) l.yielded;
}
