use Rattle.edit_apply.specs.See.{seen_in}
use Rattle.station_sessions.specs.Rooms.{room_of}
use Rattle.take_back.specs.Parts.{nows}
use Rattle.reply_audits.specs.Judging.{setting_in}
use Rattle.reply_audits.proofs.Answering.{seen_told}
use Rattle.reply_audits.proofs.Standing.{few_entries, sight_there}
use Rattle.reply_audits.proofs.questions.told_by_ask.Goals as goal

pub returns : goal.returns
returns c =
    let room = c.args.room.now in
    let row = c.args.row.now in
    let walk = c.args.walk.now in
    let few = few_entries room walk c.requires.walk_in c.point.ensures.walk.few in
    rw c.told_if.ensures
    (seen_told (room_of (setting_in room)) (c.replies_name_points.ensures (setting_in room)) walk.opening room.entries.now few row.station row.number
    row.reply.now c.args.point c.requires.there.0 c.requires.there.1 c.args.ask.now (seen_in walk.object.object.table (nows walk.parts) c.args.ask.now)
    (sight_there room walk c.args.point c.requires.walk_in c.requires.point c.point.ensures.walk.comes c.args.ask.now) _
    (rw c.in_ok-sight.ensures at c.in_ok-same.ensures))
