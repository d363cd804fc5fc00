use Rattle.std.proofs.Common.{length, arith, ap}
use Rattle.composables.proofs.Joining.{items_of-tight}
use Rattle.composables.proofs.Finding.{none_iff}
use Rattle.composables.proofs.tracks.Track.item_by_id.Goals as goal

pub returns-clause-found : goal.returns-clause-found
returns-clause-found g c =
    let v = c.self.invariant in
    rw (← c.self.view_is) (rw (items_of-tight c.self.inside.items v.filled v.tight) c.find_item.ensures.found)

pub returns-clause-number : goal.returns-clause-number
returns-clause-number g c =
    let v = c.self.invariant in
    rw (← c.self.view_is) (rw (items_of-tight c.self.inside.items v.filled v.tight) c.find_item.ensures.number)

pub returns-clause-range : goal.returns-clause-range
returns-clause-range g c =
    let v = c.self.invariant in
    rw (← c.self.view_is) (rw (items_of-tight c.self.inside.items v.filled v.tight) c.find_item.ensures.range)

pub returns-clause-none : goal.returns-clause-none
returns-clause-none g c =
    let v = c.self.invariant in
    let xs = c.self.inside.items in
    rw (← c.self.view_is) (rw (items_of-tight xs v.filled v.tight) (none_iff c.find_item.result xs c.args.item c.find_item.ensures.range))

pub returns-clause-most : goal.returns-clause-most
returns-clause-most g c =
    let v = c.self.invariant in
    let same = ap length (items_of-tight c.self.inside.items v.filled v.tight) in
    rw (← c.self.view_is) (omega (arith, same, c.tick.ensures, c.find_item.ensures.most))
