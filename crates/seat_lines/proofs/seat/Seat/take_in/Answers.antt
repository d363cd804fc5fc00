use Rattle.std.proofs.Common.{◌∙◌, sym, arith}
use Rattle.seat_lines.specs.contracts.seat.Seat.{the_view}
use Rattle.seat_lines.proofs.Pieces.{came_none, came_one}
use Rattle.seat_lines.proofs.seat.Seat.take_in.Goals as goal

pub returns-in-None-clause-comes : goal.returns-in-None-clause-comes
returns-in-None-clause-comes c =
    rw (← c.self.view_is, c.keep.ensures.bytes)
    (came_none (the_view c.self.inside) c.args.piece.now (omega (arith, c.self.invariant.1)) (sym c.in-None.ensures.at))

pub returns-in-Some-clause-comes : goal.returns-in-Some-clause-comes
returns-in-Some-clause-comes c =
    rw (← c.self-in-Some.view_is)
    (c.end_line.ensures
    ∙ rw c.keep-in-Some.ensures.bytes
    (came_one (the_view c.self-in-Some.inside) c.args.piece.now c.in-Some.at (omega (arith, c.self-in-Some.invariant.1)) (sym c.in-Some.ensures.at)))
