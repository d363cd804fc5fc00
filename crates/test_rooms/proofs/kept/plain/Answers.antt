use Rattle.std.proofs.Common.{arith}
use Rattle.room_core.specs.Totals.{CanOpen, counters}
use Rattle.history_points.proofs.Openings.{of_opening}
use Rattle.test_rooms.proofs.kept.plain.Goals as goal

pub replay-requires-clause-from : goal.replay-requires-clause-from
replay-requires-clause-from c =
    rw c.deref.ensures.value (of_opening (counters 3 1000000) (λ ps. CanOpen 3 1000000 ps) c.args.n c.in_ok-opening.opening.items c.in_ok-opening.ensures (omega (arith, c.if-n-gt100000.false)))

pub replay-requires-clause-good : goal.replay-requires-clause-good
replay-requires-clause-good c = rw c.deref.ensures.value c.in_ok-opening.ensures.2
