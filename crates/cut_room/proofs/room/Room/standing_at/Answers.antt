use Rattle.std.proofs.Common.{◌≡◌, ℕ, subst, arith}
use Rattle.std.proofs.lemmas.Bool.Decides.{nat_tests}
use Rattle.history_points.specs.KeptCuts.{IsCutOf}
use Rattle.cut_room.proofs.room.Room.standing_at.Goals as goal

pub returns-then-point-n-2-clause-cut : goal.returns-then-point-n-2-clause-cut
returns-then-point-n-2-clause-cut g c =
    let same : c.in-Ok.field-0.point ≡ c.args.n = Prim.grind (arith, nat_tests, c.in-Ok.point-is, c.if-point-n-2.true) in
    subst (λ (k : ℕ). IsCutOf g.O.PartObject.meaning g.O.PartObject.good g.O.PartObject.count g.J.Naming.opening c.standing-pass.result.0.entries k c.in-Ok.field-0.parts.items) same
    (rw c.in-Ok.is at c.standing-pass.ensures.cut)
