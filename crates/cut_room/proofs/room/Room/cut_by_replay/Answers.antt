use Rattle.cut_room.proofs.Cuts.{cut_fault}
use Rattle.cut_room.proofs.Replaying.{cut_given}
use Rattle.cut_room.proofs.room.Room.cut_by_replay.Goals as goal

pub returns-in-Ok-clause-cut : goal.returns-in-Ok-clause-cut
returns-in-Ok-clause-cut g c =
    cut_given (g.O.PartObject.meaning c.args.self.now.object) c.args.self.now.parts c.args.pass c.begun-pass.result.0 c.gone_on.result.0 c.args.n c.gone_on.result.1
    c.begun-pass.ensures.at c.gone_on.ensures.stays (rw c.in-Ok.is at c.begun-pass.ensures.within).1 c.gone_on.ensures.parts c.gone_on.ensures.fault

pub returns-in-Err-clause-cut : goal.returns-in-Err-clause-cut
returns-in-Err-clause-cut g c =
    cut_fault (g.O.PartObject.meaning c.args.self.now.object) c.args.self.now.parts c.args.pass c.begun-pass.result.0 c.args.n c.in-Err.fault
    c.begun-pass.ensures.at (rw c.in-Err.is at c.begun-pass.ensures.fault)
