use Rattle.std.proofs.Common.{List}
use Rattle.cut_steps.specs.CutSteps.{KeptTrack}
use Rattle.recorded_sessions.specs.Telling.{IsKnown}
use Rattle.recorded_sessions.specs.declared.telling.Told.{Told}
use Rattle.station_sessions.specs.Transcript.{News}
use Rattle.reply_audits.specs.Points.{answered_in}
use Rattle.reply_audits.proofs.Verdicts.{ok_too}
use Rattle.reply_audits.proofs.judging.told_there.Goals as goal

pub returns-in-News : goal.returns-in-News
returns-in-News c =
    let room = c.args.room.now in
    let row = c.args.row.now in
    let walk = c.args.walk.now in
    rw c.in-News.is
    (ok_too (λ (tell : Told). (opening : List KeptTrack) → IsKnown (answered_in room opening row (News c.in-News.place)) tell)
    (λ (tell : Told). IsKnown (answered_in room walk.opening row (News c.in-News.place)) tell) c.told_by_news.result
    (λ tell known. known walk.opening) c.told_by_news.ensures)
