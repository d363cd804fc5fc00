use Rattle.std.proofs.Common.{arith}
use Rattle.edit_journal.proofs.Moves.{gives}
use Rattle.edit_journal.proofs.seats.give.Goals as goal

pub split_seat-requires : goal.split_seat-requires
split_seat-requires g c = (c.requires.seat.0, omega (arith, c.requires.seat.1), rw c.requires.name (gives (λ o. (g.O.PartObject.meaning o).names) _ c.args.seat.now.me.0 c.args.name c.requires.keeps c.requires.has))
