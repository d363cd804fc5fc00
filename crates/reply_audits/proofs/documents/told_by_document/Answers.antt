use Rattle.std.proofs.Common.{◌≡◌, arith}
use Rattle.station_sessions.specs.Rooms.{room_of}
use Rattle.reply_audits.specs.Judging.{setting_in}
use Rattle.reply_audits.proofs.Answering.{document_told, no_document_told, past_document_told}
use Rattle.reply_audits.proofs.Standing.{few_entries, state_there}
use Rattle.reply_audits.proofs.documents.told_by_document.Goals as goal

pub returns-then-point-asked : goal.returns-then-point-asked
returns-then-point-asked c =
    let room = c.args.room.now in
    let row = c.args.row.now in
    let walk = c.args.walk.now in
    let few = few_entries room walk c.requires.walk_in c.point.ensures.walk.few in
    rw c.told_if.ensures
    (past_document_told (room_of (setting_in room)) (c.replies_name_points.ensures (setting_in room)) walk.opening room.entries.now few row.station
    row.number row.reply.now c.args.point c.requires.there.0 c.requires.there.1 c.args.asked c.if-point-asked.true _ c.is_refusal-same.ensures)

pub returns-then-asked-point : goal.returns-then-asked-point
returns-then-asked-point c =
    let room = c.args.room.now in
    let row = c.args.row.now in
    let walk = c.args.walk.now in
    let few = few_entries room walk c.requires.walk_in c.point.ensures.walk.few in
    no_document_told (room_of (setting_in room)) (c.replies_name_points.ensures (setting_in room)) walk.opening room.entries.now few row.station row.number
    row.reply.now c.args.point c.requires.there.0 c.requires.there.1 c.args.asked c.if-asked-point.true

pub returns : goal.returns
returns c =
    let room = c.args.room.now in
    let row = c.args.row.now in
    let walk = c.args.walk.now in
    let few = few_entries room walk c.requires.walk_in c.point.ensures.walk.few in
    let at : c.args.asked ≡ c.args.point = omega (arith, c.if-point-asked.false, c.if-asked-point.false) in
    rw c.told_if-2.ensures
    (document_told (room_of (setting_in room)) (c.replies_name_points.ensures (setting_in room)) walk.opening room.entries.now few row.station row.number
    row.reply.now c.args.point c.requires.there.0 c.requires.there.1 c.args.asked at walk.parts
    (state_there room walk c.args.point c.requires.walk_in c.requires.point c.point.ensures.walk.comes) _
    (rw c.parts.ensures.parts at c.in_ok-same.ensures))
