use Rattle.std.proofs.Common.{arith}
use Rattle.history_points.proofs.Keeping.{kept_fewer}
use Rattle.history_points.specs.KeptInside.{known_by}
use Rattle.history_points.proofs.points.Points.make_room.Goals as goal

pub invariant_of-self : goal.invariant_of-self
invariant_of-self g c =
    let s = c.self.inside in (
      c.self.invariant.0,
      kept_fewer g.O.PartObject.meaning g.O.PartObject.good g.O.PartObject.count g.J.Naming.opening (known_by s.pass) s.cuts.entries c.let_one_go.new.cuts.entries
          c.self.invariant.1 (omega (arith, c.self.invariant.1.few, c.let_one_go.ensures.one)) c.let_one_go.ensures.left,
    )
