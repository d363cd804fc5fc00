use Rattle.std.proofs.Common.{◌≡◌, ◌∷◌, [], sym, ◌∙◌, arith}
use Rattle.history_points.proofs.NamedCalls.{good-count}
use Rattle.cut_room.proofs.Numbered.{members_of}
use Rattle.cut_room.proofs.room.Room.hold_one.Goals as goal

pub returns-clause-numbers : goal.returns-clause-numbers
returns-clause-numbers g c =
    let s = c.self.inside in
    let law = g.met.O.PartObject.opening s.object s.opening.items c.self.invariant.1 in
    let parts = good-count (g.O.PartObject.good s.object) (g.O.PartObject.count s.object) s.opening.items law.2 in
    let count : g.O.PartObject.count s.object ≡ s.tracks = omega (arith, parts, c.self.invariant.2) in
    let there = rw (← c.self.view_is) at c.requires in
    c.in_ok-held.ensures.numbers
    ∙ members_of s.tracks c.set_of_one.result (c.args.part ∷ []) (omega (arith, law.1, count)) (omega arith, omega (arith, there, count), tt) (sym c.set_of_one.ensures)
