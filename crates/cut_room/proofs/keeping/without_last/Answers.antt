use Rattle.std.proofs.Common.{ap, arith, length}
use Rattle.std.proofs.lemmas.List.{length-map}
use Rattle.cut_room.proofs.Stations.{fresh_fewer, length-numbers}
use Rattle.cut_room.proofs.keeping.without_last.Goals as goal

pub unreachable-requires : goal.unreachable-requires
unreachable-requires g c =
    let none = rw c.in-None.is at c.pop.ensures.cases in
    let count = ap length c.requires.fresh.0 in
    absurd (omega (arith, none.0, count, length-map c.args.passes.items (λ q. q.number), length-numbers 0 g.J.Naming.stations, c.requires.some, c.args.passes.ok))

pub returns-clause-fewer : goal.returns-clause-fewer
returns-clause-fewer g c =
    (fresh_fewer g.J.Naming.opening g.J.Naming.stations c.args.passes.items c.pop.new.self.items c.in-Some.last c.requires.fresh c.requires.some (rw c.in-Some.is at c.pop.ensures.items)).0

pub returns-clause-last : goal.returns-clause-last
returns-clause-last g c =
    (fresh_fewer g.J.Naming.opening g.J.Naming.stations c.args.passes.items c.pop.new.self.items c.in-Some.last c.requires.fresh c.requires.some (rw c.in-Some.is at c.pop.ensures.items)).1

pub returns-clause-none : goal.returns-clause-none
returns-clause-none g c =
    (fresh_fewer g.J.Naming.opening g.J.Naming.stations c.args.passes.items c.pop.new.self.items c.in-Some.last c.requires.fresh c.requires.some (rw c.in-Some.is at c.pop.ensures.items)).2
