use Rattle.std.proofs.Common.{length, ap, sym, ◌∙◌}
use Rattle.cut_room.proofs.Passes.{at_point}
use Rattle.cut_room.proofs.Replaying.{cut_there}
use Rattle.cut_room.proofs.room.Room.begun_by.Goals as goal

pub returns-in-Err-clause-at : goal.returns-in-Err-clause-at
returns-in-Err-clause-at g c =
    let s = c.self.inside in
    let met = c.meet-pass.ensures in
    let h = met.journal in
    rw (← c.self.view_is)
    (at_point g.O.PartObject.meaning g.O.PartObject.opens g.J.Naming.opening (s.object, s.opening.items) c.lock-turn.result.journal.entries c.args.pass c.meet-pass.result.0 (length c.meet-pass.result.0.entries)
    c.self.invariant.0 (h.0, h.1, h.2, h.3) met.stands met.pass.0 met.pass.1 met.pass.2 (ap length met.pass.2))

pub returns-in-Ok-copy-clause-at : goal.returns-in-Ok-copy-clause-at
returns-in-Ok-copy-clause-at g c =
    let s = c.self.inside in
    let met = c.meet-pass.ensures in
    let h = met.journal in
    rw (← c.self.view_is)
    (at_point g.O.PartObject.meaning g.O.PartObject.opens g.J.Naming.opening (s.object, s.opening.items) c.lock-turn.result.journal.entries c.args.pass c.meet-pass.result.0 (length c.meet-pass.result.0.entries)
    c.self.invariant.0 (h.0, h.1, h.2, h.3) met.stands met.pass.0 met.pass.1 met.pass.2 (ap length met.pass.2))

pub returns-in-Ok-copy-clause-cut : goal.returns-in-Ok-copy-clause-cut
returns-in-Ok-copy-clause-cut g c =
    let met = c.meet-pass.ensures in
    cut_there g.O.PartObject.meaning g.O.PartObject.good g.O.PartObject.count g.J.Naming.opening c.meet-pass.new.self.pass.entries c.meet-pass.result.0.entries c.nearest-from.result c.in-Ok-copy.parts.items
    (met.kept ∙ sym met.pass.2) c.in-Ok-copy.ensures.cut

pub returns-in-Err-copy-clause-at : goal.returns-in-Err-copy-clause-at
returns-in-Err-copy-clause-at g c =
    let s = c.self.inside in
    let met = c.meet-pass.ensures in
    let h = met.journal in
    rw (← c.self.view_is)
    (at_point g.O.PartObject.meaning g.O.PartObject.opens g.J.Naming.opening (s.object, s.opening.items) c.lock-turn.result.journal.entries c.args.pass c.meet-pass.result.0 (length c.meet-pass.result.0.entries)
    c.self.invariant.0 (h.0, h.1, h.2, h.3) met.stands met.pass.0 met.pass.1 met.pass.2 (ap length met.pass.2))
