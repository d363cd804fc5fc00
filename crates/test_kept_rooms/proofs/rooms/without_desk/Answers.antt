use Rattle.std.proofs.Common.{ap, arith, length}
use Rattle.std.proofs.lemmas.List.{length-map}
use Rattle.cut_room.proofs.Stations.{length-numbers}
use Rattle.test_kept_rooms.proofs.Passes.{two_left}
use Rattle.test_kept_rooms.proofs.rooms.without_desk.Goals as goal

pub unreachable-requires : goal.unreachable-requires
unreachable-requires g c =
    let none = rw c.in-None.is at c.pop.ensures.cases in
    let count = ap length c.requires.0 in
    absurd (omega (arith, none.0, count, length-map c.args.passes.items (λ q. q.number), length-numbers 0 3, c.args.passes.ok))

pub returns-clause-stations : goal.returns-clause-stations
returns-clause-stations g c =
    (two_left g.J.Naming.opening c.args.passes.items c.pop.new.self.items c.in-Some.reader c.requires (rw c.in-Some.is at c.pop.ensures.items)).0

pub returns-clause-two : goal.returns-clause-two
returns-clause-two g c =
    (two_left g.J.Naming.opening c.args.passes.items c.pop.new.self.items c.in-Some.reader c.requires (rw c.in-Some.is at c.pop.ensures.items)).1

pub returns-clause-none : goal.returns-clause-none
returns-clause-none g c =
    (two_left g.J.Naming.opening c.args.passes.items c.pop.new.self.items c.in-Some.reader c.requires (rw c.in-Some.is at c.pop.ensures.items)).2
