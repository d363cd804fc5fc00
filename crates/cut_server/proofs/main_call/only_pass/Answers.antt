use Rattle.std.proofs.Common.{ap, arith, length}
use Rattle.std.proofs.lemmas.List.{length-map}
use Rattle.served_rooms.proofs.Closing.{only, only_fresh}
use Rattle.cut_server.proofs.main_call.only_pass.Goals as goal

pub unreachable-requires : goal.unreachable-requires
unreachable-requires g c =
    let none = rw c.in-None.is at c.pop.ensures.cases in
    let count = ap length c.requires.0 in
    absurd (omega (arith, none.0, count, length-map c.args.passes.items (λ q. q.number), c.args.passes.ok))

pub returns-clause-pass : goal.returns-clause-pass
returns-clause-pass g c =
    let is = rw c.in-Some.is at c.pop.ensures.items in (
      (only c.args.passes.items c.in-Some.pass c.pop.new.self.items c.requires.0 is).1,
      (only_fresh g.J.Naming.opening c.args.passes.items c.in-Some.pass c.pop.new.self.items c.requires is).1,
    )

pub returns-clause-none : goal.returns-clause-none
returns-clause-none g c = (only c.args.passes.items c.in-Some.pass c.pop.new.self.items c.requires.0 (rw c.in-Some.is at c.pop.ensures.items)).0
