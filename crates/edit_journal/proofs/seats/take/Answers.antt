use Rattle.std.proofs.Common.{arith}
use Rattle.edit_journal.proofs.Moves.{takes}
use Rattle.edit_journal.proofs.seats.take.Goals as goal

pub join_seat-requires : goal.join_seat-requires
join_seat-requires g c = (c.requires.seat.0, c.requires.other.0, c.requires.other.1, omega (arith, c.requires.seat.1), takes (λ o. (g.O.PartObject.meaning o).names) _ c.args.seat.now.me.0 _ c.args.other.me.0 c.requires.keeps c.requires.other.2)
