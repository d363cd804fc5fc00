use Rattle.std.proofs.Common.{arith}
use Rattle.history_points.proofs.Openings.{of_opening}
use Rattle.take_back.specs.Parts.{CanOpen}
use Rattle.take_back.specs.Steps.{backed}
use Rattle.test_parts.specs.Sides.{sides, AreTwo}
use Rattle.test_parts.proofs.replays.replayed.Goals as goal

pub replay-requires-clause-from : goal.replay-requires-clause-from
replay-requires-clause-from c =
    rw c.deref.ensures.value (of_opening (backed 2 sides) (λ ks. CanOpen AreTwo ks) _ c.in_ok-opening.opening.items
    c.in_ok-opening.ensures.opens (omega (arith, c.if-len-gt100000.false)))

pub replay-requires-clause-good : goal.replay-requires-clause-good
replay-requires-clause-good c = rw c.deref.ensures.value c.in_ok-opening.ensures.good
