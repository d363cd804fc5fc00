use Rattle.std.proofs.Common.{◌≡◌, ◌-◌, ◌∙◌, arith}
use Rattle.cut_room.proofs.room.Room.open.Goals as goal

pub new-requires-clause-opening : goal.new-requires-clause-opening
new-requires-clause-opening g c = let o = rw (← c.blank.view_is) at c.requires.opening in o ∙ c.blank.invariant.0

pub returns-clause-passes : goal.returns-clause-passes
returns-clause-passes g c =
    let n = rw (← c.blank.view_is) at c.requires.stations in
    let count : g.J.Naming.stations - 1 ≡ c.blank.inside.stations = omega (arith, n, c.blank.invariant.3) in
    rw (← c.blank.view_is, ← count) c.without_last-passes.ensures.fewer
