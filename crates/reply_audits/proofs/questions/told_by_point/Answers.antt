use Rattle.station_sessions.specs.Rooms.{room_of}
use Rattle.reply_audits.specs.Judging.{setting_in}
use Rattle.reply_audits.proofs.Answering.{point_told}
use Rattle.reply_audits.proofs.questions.told_by_point.Goals as goal

pub returns : goal.returns
returns c = λ opening.
    let room = c.args.room.now in
    let row = c.args.row.now in
    rw c.told_if.ensures
    (point_told (room_of (setting_in room)) (c.replies_name_points.ensures (setting_in room)) opening room.entries.now c.requires.few row.station row.number
    row.reply.now c.args.point c.requires.there.0 c.requires.there.1 _
    (rw (c.as_bytes.ensures.text, c.point_text-text.ensures.text) at c.is_text.ensures))
