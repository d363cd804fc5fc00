use Rattle.std.proofs.Common.{refl}
use Rattle.history_points.proofs.Keeping.{nothing_kept}
use Rattle.history_points.proofs.points.Points.new.Goals as goal

pub invariant_of-result : goal.invariant_of-result
invariant_of-result g c = (refl, nothing_kept g.O.PartObject.meaning g.O.PartObject.good g.O.PartObject.count g.J.Naming.opening c.args.pass c.new.result.entries c.new.ensures.empty c.requires.own)
