use Rattle.std.proofs.Common.{◌≡◌, ◌≤◌, ℕ, List, length, Ok, arith, subst, sym}
use Rattle.line_table.specs.declared.lines.Line.{Line}
use Rattle.line_table.specs.declared.lines.Line.TheVariants as line
use Rattle.station_sessions.specs.Rooms.{History, room_of, wish_in}
use Rattle.station_sessions.specs.Transcript.{Bad}
use Rattle.reply_audits.specs.Judging.{setting_in}
use Rattle.reply_audits.proofs.Answering.{none_told}
use Rattle.reply_audits.proofs.Standing.{few_entries}
use Rattle.reply_audits.proofs.judging.told_as_answer.Goals as goal

-- a line of the table is not bad
good_wish : (station : ℕ) (l : Line) (text : List ℕ) → wish_in station (Ok l) ≡ Bad text → ⊥
good_wish station (line.Edit s) text e = Prim.grind (arith, e)
good_wish station (line.Ask q) text e = Prim.grind (arith, e)
good_wish station line.Point text e = Prim.grind (arith, e)
good_wish station (line.Otio n) text e = Prim.grind (arith, e)
good_wish station (line.News n) text e = Prim.grind (arith, e)

pub told_there-requires : goal.told_there-requires
told_there-requires c =
    let room = c.args.room.now in
    let there = c.in-Some.ensures in record {
      walk_in = c.requires.walk;
      there = there;
      point = c.requires.point c.in-Some.point there.0 (subst (λ (h : History). c.in-Some.point ≤ length h) (sym c.requires.walk.entries) there.1);
    }

pub returns-in-None : goal.returns-in-None
returns-in-None c =
    let room = c.args.room.now in
    let row = c.args.row.now in
    let walk = c.args.walk.now in
    rw c.in-Ok.is
    (none_told (room_of (setting_in room)) (c.replies_name_points.ensures (setting_in room)) walk.opening room.entries.now
    (few_entries room walk c.requires.walk c.point.ensures.walk.few) row.station row.number row.reply.now c.in-None.ensures
    (wish_in row.station (Ok c.in-Ok.line)) (good_wish row.station c.in-Ok.line))
