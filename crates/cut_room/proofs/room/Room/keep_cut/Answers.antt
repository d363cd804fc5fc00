use Rattle.cut_room.proofs.Replaying.{stays_then}
use Rattle.cut_room.proofs.room.Room.keep_cut.Goals as goal

pub returns-in-Ok : goal.returns-in-Ok
returns-in-Ok g c = record {
  stays = stays_then (g.O.PartObject.meaning c.args.self.now.object) c.args.self.now.parts c.args.pass c.standing-pass.result.0 c.keep_own.result c.standing-pass.ensures.stays c.keep_own.ensures.stays;
}
