use Rattle.cut_room.proofs.Replaying.{none_refused}
use Rattle.cut_room.proofs.room.Room.replayed.Goals as goal

pub unreachable-requires : goal.unreachable-requires
unreachable-requires g c =
    let s = c.self.inside in
    none_refused (g.O.PartObject.meaning s.object) c.args.from.now c.args.entries.now c.args.n c.in-Err-Refused.field-0-0 (rw (← c.self.view_is) at c.requires.applies)
    (rw c.in-Err-Refused.field-0-is at c.in-Err-Refused.ensures.replays)
