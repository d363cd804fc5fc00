use Rattle.station_sessions.specs.Rooms.{room_of}
use Rattle.reply_audits.specs.Judging.{setting_in}
use Rattle.reply_audits.proofs.Answering.{news_told, past_news_told}
use Rattle.reply_audits.proofs.news.told_by_news.Goals as goal

pub returns-then-point-place : goal.returns-then-point-place
returns-then-point-place c = λ opening.
    let room = c.args.room.now in
    let row = c.args.row.now in
    rw c.told_if.ensures
    (past_news_told (room_of (setting_in room)) (c.replies_name_points.ensures (setting_in room)) opening room.entries.now c.requires.few row.station
    row.number row.reply.now c.args.point c.requires.there.0 c.requires.there.1 c.args.place c.if-point-place.true _ c.is_refusal-same.ensures)

pub returns : goal.returns
returns c = λ opening.
    let room = c.args.room.now in
    let row = c.args.row.now in
    rw c.told_if-2.ensures
    (news_told (room_of (setting_in room)) (c.replies_name_points.ensures (setting_in room)) opening room.entries.now c.requires.few row.station row.number
    row.reply.now c.args.point c.requires.there.0 c.requires.there.1 c.args.place c.if-point-place.false _
    (rw (c.deref.ensures.value, c.in_ok-text.ensures) at c.is_text.ensures))
