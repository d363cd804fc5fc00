use Rattle.history_points.proofs.Keeping.{not_above, not_below}
use Rattle.history_points.proofs.points.Points.nearest.Goals as goal

pub returns-in-Some-clause-greatest : goal.returns-in-Some-clause-greatest
returns-in-Some-clause-greatest g c =
    rw (← c.self.view_is) (λ j low some. not_below c.in-Some.k.now j
    ((c.range.ensures.in_range tt).4 _ _ c.in-Some.ensures.steps j (tt, not_above j c.args.n low) some))
