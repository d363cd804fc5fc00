use Rattle.std.proofs.Common.{arith}
use Rattle.cut_mirror.proofs.Named.{none_yet, one_listed, one_passed, all_listed}
use Rattle.cut_mirror.proofs.parts.members.Goals as goal
use Rattle.cut_mirror.proofs.parts.members.Goals.{then-has+in_ok-push, else-has}
use Rattle.std.proofs.Common.{sym, ◌∙◌}

pub loop-number-init : goal.loop-number-init
loop-number-init c = none_yet c.args.set c.new-numbers.result.items c.new-numbers.ensures.items

pub loop-number-preserved : goal.loop-number-preserved
loop-number-preserved c =
    elim c.if-has.branch [
      | then-has+in_ok-push w ↦ rw (w.numbers-is, w.in_ok-push.ensures.items)
          (one_listed c.args.set c.loop-number.number c.loop-number.numbers.items c.loop-number-test.true
          (sym c.has.ensures ∙ w.if-has.true) c.loop-number.invariant)
      | else-has w ↦ rw w.numbers-is
          (one_passed c.args.set c.loop-number.number c.loop-number.numbers.items c.loop-number-test.true
          (sym c.has.ensures ∙ w.if-has.false) c.loop-number.invariant)
    ]

pub returns : goal.returns
returns c = all_listed c.args.set c.loop-number.number c.loop-number.numbers.items
    (omega (arith, c.loop-number-test.false, c.loop-number.auto.number-end)) c.loop-number.invariant
