use Rattle.std.proofs.Common.{◌≡◌, ◌<◌, ◌≤◌, ◌++◌, ℕ, true, length, vec_capacity}
use Rattle.std.specs.Vec.Iter.{into_iter_items}
use Rattle.served_rooms.specs.Seated.{AreSeated}
use Rattle.served_rooms.proofs.stations.seat_all.Given as goal

abbrev pub invariant-loop-pass : goal.invariant-loop-pass
invariant-loop-pass g l = record {
  so_far : l.yielded ++ into_iter_items l.pass-iterator ≡ l.fn.passes.items;
  count : length l.seated.items ≡ length l.yielded;
  room : vec_capacity l.seated ≡ vec_capacity l.fn.seated;
  seated : AreSeated (g.H.Hall.told l.fn.hall) l.fn.passes.items l.seated.items;
  held : (k : ℕ) → k < length l.seated.items → ((g.H.Hall.told l.hall).station k).seated ≡ true;
  free : (k : ℕ) → length l.seated.items ≤ k → (g.H.Hall.told l.hall).station k ≡ (g.H.Hall.told l.fn.hall).station k;
  quiet : (g.H.Hall.told l.hall).faults ≡ (g.H.Hall.told l.fn.hall).faults;
  opened : (g.H.Hall.told l.hall).opened ≡ (g.H.Hall.told l.fn.hall).opened;
}
