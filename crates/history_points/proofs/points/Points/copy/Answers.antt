use Rattle.std.proofs.Common.{◌≡◌, Some, sym, ap, ◌∙◌}
use Rattle.std.specs.Option.{option_copied}
use Rattle.history_points.specs.KeptCuts.{kept_at}
use Rattle.history_points.specs.KeptInside.{known_by}
use Rattle.history_points.proofs.Keeping.{copied_cut}
use Rattle.history_points.proofs.points.Points.copy.Goals as goal

pub returns-clause-cut : goal.returns-clause-cut
returns-clause-cut g c =
    let s = c.self.inside in
    let parts = c.in-Some.parts.now in
    let found : kept_at s.cuts.entries c.args.k ≡ Some parts = sym c.get.ensures.value ∙ ap option_copied c.in-Some.is in
    rw (← c.self.view_is) (copied_cut g.O.PartObject.meaning g.O.PartObject.good g.O.PartObject.count g.J.Naming.opening (known_by s.pass).entries c.args.k parts.items c.copy_parts.result
    (c.self.invariant.1.cuts c.args.k parts found) (rw c.deref.ensures.value at c.copy_parts.ensures))
