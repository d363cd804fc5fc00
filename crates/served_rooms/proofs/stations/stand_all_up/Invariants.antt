use Rattle.std.proofs.Common.{◌≡◌, ◌<◌, ◌≤◌, ◌++◌, ℕ, true, Some, length, map, slice_get, vec_capacity}
use Rattle.std.specs.Vec.Iter.{into_iter_items}
use Rattle.served_rooms.specs.Halls.{first_fault, line_of, status_of}
use Rattle.served_rooms.specs.Seated.{SeatedState, left_of}
use Rattle.served_rooms.proofs.stations.stand_all_up.Given as goal

abbrev pub invariant-loop-seat : goal.invariant-loop-seat
invariant-loop-seat g l = record {
  so_far : l.yielded ++ into_iter_items l.seat-iterator ≡ l.fn.seated.items;
  room : vec_capacity l.left ≡ vec_capacity l.fn.left;
  held : (k : ℕ) → k < length l.fn.seated.items → ((g.H.Hall.told l.hall).station k).seated ≡ true;
  lines : (k : ℕ) (s : SeatedState) → slice_get l.yielded k ≡ Some s → line_of ((g.H.Hall.told l.hall).station k).line ≡ s.line;
  free : (k : ℕ) → length l.yielded ≤ k → (g.H.Hall.told l.hall).station k ≡ (g.H.Hall.told l.fn.hall).station k;
  kept : map Some l.left.items ≡ map left_of l.yielded;
  fault : l.fault ≡ first_fault (map status_of (map (λ (s : SeatedState). s.end) l.yielded));
  quiet : (g.H.Hall.told l.hall).faults ≡ (g.H.Hall.told l.fn.hall).faults;
  opened : (g.H.Hall.told l.hall).opened ≡ (g.H.Hall.told l.fn.hall).opened;
}
