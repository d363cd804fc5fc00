use Rattle.std.proofs.Common.{arith}
use Rattle.edit_journal.proofs.Moves.{adds}
use Rattle.edit_journal.proofs.seats.append.Goals as goal

pub store-requires : goal.store-requires
store-requires g c =
    let n = c.requires.names in
    (c.requires.seat.0, omega (arith, c.requires.seat.1), rw c.requires.entry (adds (λ o. (g.O.PartObject.meaning o).names) _ _ c.args.seat.now.me.0 c.args.seat.now.me.1 c.args.count c.args.entry.now n.0 c.requires.keeps n.1 c.requires.count.0 n.2))
