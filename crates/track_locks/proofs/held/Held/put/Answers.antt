use Rattle.std.proofs.Common.{map}
use Rattle.std.specs.List.{filter_map}
use Rattle.track_locks.proofs.Begin.{few_versions}
use Rattle.track_locks.proofs.held.Held.put.Goals as goal

pub put_parts-requires-clause-few : goal.put_parts-requires-clause-few
put_parts-requires-clause-few g c =
    rw c.deref_mut.ensures.value (few_versions g.O.PartObject.meaning g.O.PartObject.opens g.J.Naming.opening (map (λ h. h.number) c.self.inside.homes.items) c.args.parts.items (map (λ h. h.version) c.self.inside.homes.items) (filter_map (λ h. h.seat) c.self.inside.homes.items) (rw (← c.self.view_is) at c.requires))
