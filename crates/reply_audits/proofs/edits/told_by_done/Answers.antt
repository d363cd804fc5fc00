use Rattle.station_sessions.specs.Rooms.{room_of}
use Rattle.reply_audits.specs.Judging.{setting_in}
use Rattle.reply_audits.proofs.Answering.{full_told, own_told}
use Rattle.reply_audits.proofs.edits.told_by_done.Goals as goal

pub returns-then-is_own : goal.returns-then-is_own
returns-then-is_own c = λ opening answer.
    let room = c.args.room.now in
    let row = c.args.row.now in
    rw c.told_if.ensures
    (own_told (room_of (setting_in room)) (c.replies_name_points.ensures (setting_in room)) opening room.entries.now c.requires.few row.station row.number
    row.reply.now c.args.point c.requires.there.0 c.requires.there.1 c.args.step.now c.args.done answer (rw c.if-is_own.true at c.is_own.ensures) _
    c.is_answer-same.ensures)

pub returns : goal.returns
returns c = λ opening answer.
    let room = c.args.room.now in
    let row = c.args.row.now in
    rw c.told_if-2.ensures
    (full_told (room_of (setting_in room)) (c.replies_name_points.ensures (setting_in room)) opening room.entries.now c.requires.few row.station row.number
    row.reply.now c.args.point c.requires.there.0 c.requires.there.1 c.args.step.now c.args.done answer (rw c.if-is_own.false at c.is_own.ensures) _
    c.is_full_told.ensures)
