use Rattle.history_points.proofs.Keeping.{kept_more, one_more}
use Rattle.history_points.specs.KeptInside.{known_by}
use Rattle.history_points.proofs.points.Points.keep.Goals as goal

pub invariant_of-self-2 : goal.invariant_of-self-2
invariant_of-self-2 g c =
    let s = c.self.inside in (
      c.self.invariant.0,
      kept_more g.O.PartObject.meaning g.O.PartObject.good g.O.PartObject.count g.J.Naming.opening (known_by s.pass) s.cuts.entries c.insert.new.self.entries c.args.k c.args.parts
          c.self.invariant.1 (one_more _ _ _ (rw (← c.self.view_is) at c.requires.room) c.in_ok-insert.ensures.len) (rw (← c.self.view_is) at c.requires.within) (rw (← c.self.view_is) at c.requires.cut) c.in_ok-insert.ensures.updates.0,
    )
