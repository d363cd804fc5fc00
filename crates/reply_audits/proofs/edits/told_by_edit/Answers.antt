use Rattle.std.proofs.Common.{Ok, Err}
use Rattle.std.proofs.Common.{subst}
use Rattle.cut_steps.specs.CutSteps.{CutStep}
use Rattle.recorded_sessions.specs.Telling.{IsKnown}
use Rattle.station_sessions.specs.Transcript.{Do}
use Rattle.reply_audits.specs.Points.{answered_in}
use Rattle.reply_audits.proofs.Standing.{answer_there}
use Rattle.reply_audits.proofs.edits.told_by_edit.Goals as goal

pub returns-in-Ok : goal.returns-in-Ok
returns-in-Ok c =
    let room = c.args.room.now in
    let walk = c.args.walk.now in
    subst (λ (s : CutStep). IsKnown (answered_in room walk.opening c.args.row.now (Do s)) c.told_by_done.result) c.asked_by-step.ensures
    (c.told_by_done.ensures walk.opening
    (answer_there room walk c.args.point c.requires.walk_in c.requires.point c.point.ensures.walk.comes _ (Ok c.in-Ok.done) c.in-Ok.ensures.tells))

pub returns-in-Err-Refused : goal.returns-in-Err-Refused
returns-in-Err-Refused c =
    let room = c.args.room.now in
    let walk = c.args.walk.now in
    subst (λ (s : CutStep). IsKnown (answered_in room walk.opening c.args.row.now (Do s)) c.told_by_refusal.result) c.asked_by-step.ensures
    (c.told_by_refusal.ensures walk.opening
    (answer_there room walk c.args.point c.requires.walk_in c.requires.point c.point.ensures.walk.comes _ (Err c.in-Err-Refused.refusal)
    (rw c.in-Err-Refused.field-0-is at c.in-Err-Refused.ensures.tells)))
