use Rattle.station_sessions.specs.Rooms.{room_of}
use Rattle.reply_audits.specs.Judging.{setting_in}
use Rattle.reply_audits.proofs.Answering.{refused_told}
use Rattle.reply_audits.proofs.edits.told_by_refusal.Goals as goal

pub returns : goal.returns
returns c = λ opening answer.
    let room = c.args.room.now in
    let row = c.args.row.now in
    rw c.told_if.ensures
    (refused_told (room_of (setting_in room)) (c.replies_name_points.ensures (setting_in room)) opening room.entries.now c.requires.few row.station row.number
    row.reply.now c.args.point c.requires.there.0 c.requires.there.1 c.args.step.now c.args.refusal answer _ c.is_answer-same.ensures)
