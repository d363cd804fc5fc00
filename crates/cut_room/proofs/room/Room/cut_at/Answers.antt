use Rattle.cut_room.proofs.Standing.{cut_given_here, cut_then}
use Rattle.cut_room.proofs.room.Room.cut_at.Goals as goal

pub returns-in-Some-clause-cut : goal.returns-in-Some-clause-cut
returns-in-Some-clause-cut g c =
    let s = c.self.inside in
    let told = c.standing_at-pass.ensures in
    rw (← c.self.view_is)
    (cut_given_here g.O.PartObject.meaning g.O.PartObject.good g.O.PartObject.count g.J.Naming.opening (s.object, s.opening.items) c.args.pass c.standing_at-pass.result.0 c.args.n c.in-Some.parts
    c.self.invariant.0 (rw (← c.self.view_is) at told.stays) (rw c.in-Some.is at told.within) (rw c.in-Some.is at told.cut))

pub returns-in-Some-clause-good : goal.returns-in-Some-clause-good
returns-in-Some-clause-good g c =
    let s = c.self.inside in
    rw (← c.self.view_is) ((rw c.in-Some.is at c.standing_at-pass.ensures.cut) (s.object, s.opening.items) c.self.invariant.0).1

pub returns-in-None-clause-cut : goal.returns-in-None-clause-cut
returns-in-None-clause-cut g c =
    cut_then (g.O.PartObject.meaning c.args.self.now.object) c.args.self.now.parts c.args.pass c.standing_at-pass.result.0 c.cut_by_replay.result.0 c.args.n c.cut_by_replay.result.1
    c.standing_at-pass.ensures.stays c.cut_by_replay.ensures.cut
