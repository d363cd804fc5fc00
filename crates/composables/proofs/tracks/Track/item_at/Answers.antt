use Rattle.std.proofs.Common.{arith}
use Rattle.composables.proofs.Joining.{items_of-tight, length-cells_of}
use Rattle.composables.proofs.tracks.Track.item_at.Goals as goal

pub returns-clause-found : goal.returns-clause-found
returns-clause-found g c =
    let v = c.self.invariant in
    rw (← c.self.view_is) (rw (items_of-tight c.self.inside.items v.filled v.tight) c.find_place.ensures.found)

pub returns-clause-none : goal.returns-clause-none
returns-clause-none g c =
    rw (← c.self.view_is) (rw (length-cells_of c.self.inside.items) c.find_place.ensures.none)

pub returns-clause-look : goal.returns-clause-look
returns-clause-look g c =
    let v = c.self.invariant in
    rw (← c.self.view_is) (rw (items_of-tight c.self.inside.items v.filled v.tight) (omega (arith, c.find_place.ensures.look)))

pub returns-clause-most : goal.returns-clause-most
returns-clause-most g c =
    let v = c.self.invariant in
    rw (← c.self.view_is) (rw (items_of-tight c.self.inside.items v.filled v.tight) (omega (arith, c.find_place.ensures.most)))
