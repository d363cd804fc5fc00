use Rattle.cut_room.proofs.Passes.{stays_same, turned_down}
use Rattle.cut_room.proofs.Putting.{roomy_homes}
use Rattle.cut_room.proofs.room.Room.edit_held.Goals as goal

pub apply-requires-clause-good : goal.apply-requires-clause-good
apply-requires-clause-good g c =
    let s = c.self.inside in
    let names = rw (← c.self.view_is) at c.requires.numbers in
    rw (c.in-Ok.ensures, ← names) (c.requires.good (s.object, s.opening.items) c.self.invariant.0)

pub apply-requires-clause-roomy : goal.apply-requires-clause-roomy
apply-requires-clause-roomy g c =
    let s = c.self.inside in
    let h = c.args.held in
    rw c.in-Ok.ensures
    (roomy_homes g.O.PartObject.meaning g.O.PartObject.opens g.O.PartObject.roomy g.J.Naming.opening (s.object, s.opening.items) h.numbers h.parts h.versions h.seats c.self.invariant.0 c.requires.homes
    (λ entries now legal comes. g.met.O.PartObject.stays_roomy s.object s.opening.items now entries c.self.invariant.1 legal comes))

pub returns-in-Err-clause-edited : goal.returns-in-Err-clause-edited
returns-in-Err-clause-edited g c = (stays_same _ _ c.args.pass, c.requires.named)

pub returns-in-Refused-clause-edited : goal.returns-in-Refused-clause-edited
returns-in-Refused-clause-edited g c =
    let s = c.self.inside in
    let h = c.args.held in
    let meant = rw c.in-Refused.is at c.in-Err-apply.ensures.meant in
    rw (← c.self.view_is) (turned_down (g.O.PartObject.meaning s.object) s.opening.items c.args.entry.call c.args.pass c.look-pass.result.0 c.look-pass.result.1 h.numbers h.parts c.in-Refused.refusal
    (rw (← c.self.view_is) at c.look-pass.ensures.at) (rw (← c.self.view_is, c.look-pass.ensures.same.0, c.look-pass.ensures.same.1) at c.look-pass.ensures.parts)
    (rw (← c.self.view_is) at c.requires.named) (rw (← c.self.view_is) at c.requires.numbers) (rw c.in-Ok.ensures at meant.0))
