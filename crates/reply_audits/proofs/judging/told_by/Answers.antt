use Rattle.recorded_sessions.specs.Recordings.{line_seen}
use Rattle.recorded_sessions.specs.Telling.{IsKnown}
use Rattle.recorded_sessions.specs.declared.telling.Told.{Told}
use Rattle.station_sessions.specs.Rooms.{room_of, wish_in}
use Rattle.reply_audits.specs.Judging.{explained_by, setting_in}
use Rattle.reply_audits.specs.Points.{answered_in}
use Rattle.reply_audits.proofs.Answering.{answer_told, memory_told}
use Rattle.reply_audits.proofs.Standing.{few_entries}
use Rattle.reply_audits.proofs.Verdicts.{ok_too}
use Rattle.reply_audits.proofs.judging.told_by.Goals as goal

pub returns-then-is_memory_told : goal.returns-then-is_memory_told
returns-then-is_memory_told c =
    let room = c.args.room.now in
    let row = c.args.row.now in
    let walk = c.args.walk.now in
    let is = rw c.if-is_memory_told.true at c.is_memory_told.ensures in
    memory_told (room_of (setting_in room)) (c.replies_name_points.ensures (setting_in room)) walk.opening room.entries.now
    (few_entries room walk c.requires.walk c.point.ensures.walk.few) row.station row.number row.reply.now (line_seen row.line) is.0 is.1 is.2

pub returns : goal.returns
returns c =
    let room = c.args.room.now in
    let row = c.args.row.now in
    let walk = c.args.walk.now in
    let not = rw c.if-is_memory_told.false at c.is_memory_told.ensures in
    ok_too
    (λ (tell : Told). IsKnown (answered_in room walk.opening row (wish_in row.station c.in_ok-read.read)) tell)
    (λ (tell : Told). IsKnown (explained_by (setting_in room) walk.opening room.entries.now row.station row.number (line_seen row.line) row.reply.now) tell)
    c.told_as_answer.result
    (λ tell known. answer_told (room_of (setting_in room)) (c.replies_name_points.ensures (setting_in room)) walk.opening room.entries.now
    (few_entries room walk c.requires.walk c.point.ensures.walk.few) row.station row.number row.reply.now (line_seen row.line) not tell
    (rw c.in_ok-read.ensures at known))
    c.told_as_answer.ensures
