use Rattle.std.proofs.Common.{arith}
use Rattle.history_points.proofs.Sets.{rest_of_all, listed_next, passed_next, all_listed}
use Rattle.history_points.proofs.naming.numbers_in.Goals as goal
use Rattle.history_points.proofs.naming.numbers_in.Goals.{then-left-eq1+in_ok-push, else-left-eq1}

pub loop-number-init : goal.loop-number-init
loop-number-init c = λ names a is. rw c.new-numbers.ensures.items (rest_of_all c.args.set names a is)

pub loop-number-preserved : goal.loop-number-preserved
loop-number-preserved c = λ names a is.
    let so_far = c.loop-number.invariant names a is in
    elim c.if-left-eq1.branch [
      | then-left-eq1+in_ok-push w ↦ rw (w.numbers-is, w.in_ok-push.ensures.items)
          (listed_next 32 c.loop-number.number c.loop-number.left c.loop-number.numbers.items names so_far w.if-left-eq1.true)
      | else-left-eq1 w ↦ rw w.numbers-is (passed_next 32 c.loop-number.number c.loop-number.left c.loop-number.numbers.items names so_far w.if-left-eq1.false)
    ]

pub returns : goal.returns
returns c = λ names a is. all_listed 32 c.loop-number.number c.loop-number.left c.loop-number.numbers.items names (omega (arith, c.loop-number-test.false)) (c.loop-number.invariant names a is)
