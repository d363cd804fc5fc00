use Rattle.std.proofs.Common.{◌≡◌, map, take, vec_capacity, length}
use Rattle.track_locks.proofs.held.copied.Given as goal

abbrev pub invariant-loop-home : goal.invariant-loop-home
invariant-loop-home g l = record {
  so_far : l.all.items ≡ take l.home-index (map (λ h. h.part) l.homes);
  room : vec_capacity l.all ≡ length l.homes;
}
