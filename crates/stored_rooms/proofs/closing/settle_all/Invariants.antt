use Rattle.std.proofs.Common.{◌≡◌, ◌≤◌, ◌++◌, ℕ, Some, length, map, slice_get, vec_capacity}
use Rattle.std.specs.Vec.Iter.{into_iter_items}
use Rattle.served_rooms.specs.Seated.{LeftState}
use Rattle.stored_rooms.proofs.closing.settle_all.Given as goal

abbrev pub invariant-loop-station : goal.invariant-loop-station
invariant-loop-station g l = record {
  so_far : l.yielded ++ into_iter_items l.station-iterator ≡ l.fn.left.items;
  room : vec_capacity l.passes ≡ vec_capacity l.fn.passes;
  taken : l.passes.items ≡ map (λ (x : LeftState). x.pass) l.yielded;
  same : l.desk ≡ l.fn.desk;
  held : (k : ℕ) (s : LeftState) → slice_get l.yielded k ≡ Some s → length g.K.Filing.kept ≤ l.fn.desk.file.count → s.holding.held ≤ l.fn.desk.file.count;
  failed : (k : ℕ) (s : LeftState) → slice_get l.yielded k ≡ Some s → s.holding.failures ≤ l.fn.desk.counts.failed;
}
