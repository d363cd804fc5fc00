use Rattle.std.proofs.Common.{arith}
use Rattle.edit_journal.proofs.Moves.{looks}
use Rattle.edit_journal.proofs.seats.look.Goals as goal

pub load-requires : goal.load-requires
load-requires g c = (c.requires.seat.0, omega (arith, c.requires.seat.1), looks (λ o. (g.O.PartObject.meaning o).names) _ _ c.args.seat.now.me.0 c.args.seat.now.me.1)

pub returns-clause-agrees : goal.returns-clause-agrees
returns-clause-agrees g c = (c.load.ensures.2.1 c.requires.keeps).1
