use Rattle.std.proofs.Common.{refl}
use Rattle.history_points.proofs.Keeping.{kept_further}
use Rattle.history_points.proofs.points.Points.meet.Goals as goal

pub taken-requires : goal.taken-requires
taken-requires g c = c.self.invariant.0

pub invariant_of-self : goal.invariant_of-self
invariant_of-self g c =
    let pass = c.taken.result in
    let met = c.met-pass.ensures in (
      refl,
      kept_further g.O.PartObject.meaning g.O.PartObject.good g.O.PartObject.count g.J.Naming.opening pass c.met-pass.result.0 c.self.inside.cuts.entries c.args.turn.now.journal.entries
          (rw c.taken.ensures at c.self.invariant.1) met.pass.0 met.pass.2 met.front met.own,
    )
