use Rattle.std.proofs.Common.{◌<◌, All, length, map, vec_len}
use Rattle.std.specs.List.{filter_map}
use Rattle.track_locks.specs.Homes.{AreGoodAt, AreHomes}
use Rattle.track_locks.proofs.held.put_back.Given as goal

abbrev pub invariant-loop-held : goal.invariant-loop-held
invariant-loop-held g l = record {
  within : All (λ n. n < length l.places) (map (λ h. h.number) l.homes.items);
  homes : AreHomes g.O.PartObject.meaning g.O.PartObject.opens g.J.Naming.opening (map (λ h. h.number) l.homes.items) (map (λ h. h.part) l.homes.items) (map (λ h. h.version) l.homes.items) (filter_map (λ h. h.seat) l.homes.items);
  good : AreGoodAt g.O.PartObject.good g.J.Naming.opening (map (λ h. h.number) l.homes.items) (map (λ h. h.part) l.homes.items);
}

abbrev pub decreases-loop-held : goal.decreases-loop-held
decreases-loop-held g l = vec_len l.homes
