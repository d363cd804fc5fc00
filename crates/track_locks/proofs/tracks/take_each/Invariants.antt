use Rattle.std.proofs.Common.{◌≡◌, map, vec_capacity}
use Rattle.std.specs.Int.RustNames.{count_ones}
use Rattle.std.specs.List.{filter_map}
use Rattle.track_locks.specs.Homes.{AreGoodAt, AreHomes, members}
use Rattle.track_locks.proofs.tracks.take_each.Given as goal

abbrev pub invariant-loop-number : goal.invariant-loop-number
invariant-loop-number g l = record {
  numbers : map (λ h. h.number) l.room.homes.items ≡ members l.number l.set;
  homes : AreHomes g.O.PartObject.meaning g.O.PartObject.opens g.J.Naming.opening (map (λ h. h.number) l.room.homes.items) (map (λ h. h.part) l.room.homes.items) (map (λ h. h.version) l.room.homes.items) (filter_map (λ h. h.seat) l.room.homes.items);
  good : AreGoodAt g.O.PartObject.good g.J.Naming.opening (map (λ h. h.number) l.room.homes.items) (map (λ h. h.part) l.room.homes.items);
  room : vec_capacity l.room.homes ≡ count_ones l.set;
}
