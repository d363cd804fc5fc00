use Rattle.std.proofs.Common.{arith}
use Rattle.kept_rooms.proofs.Looking.{knows_own}
use Rattle.kept_rooms.proofs.kept_room.look_with.Goals as goal

pub returns-clause-knows : goal.returns-clause-knows
returns-clause-knows g c = λ entries station long own.
    let room = c.args.room.now in
    knows_own (g.O.PartObject.meaning room.object) room.parts entries station c.point-pass.result.1 c.args.pass c.point-pass.result.0 own c.point-pass.ensures.at
    (omega (arith, long, c.if-point-count.false))
