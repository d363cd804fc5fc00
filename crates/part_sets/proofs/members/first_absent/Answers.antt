use Rattle.std.proofs.Common.{ap, sym, ◌∙◌, arith}
use Rattle.part_sets.specs.Members.{first_absent}
use Rattle.part_sets.proofs.Looking.{at_start, absent-passed, absent-found, no_more}
use Rattle.part_sets.proofs.members.first_absent.Goals as goal

pub loop-number-init : goal.loop-number-init
loop-number-init c = ap (first_absent c.args.count) (at_start c.args.set)

pub loop-number-preserved : goal.loop-number-preserved
loop-number-preserved c =
    c.loop-number.invariant ∙ absent-passed c.args.count c.args.set c.loop-number.number c.loop-number-test.true
    (sym c.is_absent.ensures ∙ c.if-is_absent.false)

pub returns-then-is_absent : goal.returns-then-is_absent
returns-then-is_absent c =
    sym (c.loop-number.invariant ∙ absent-found c.args.count c.args.set c.loop-number.number c.loop-number-test.true
    (sym c.is_absent.ensures ∙ c.if-is_absent.true))

pub returns : goal.returns
returns c =
    sym (c.loop-number.invariant ∙ ap (first_absent c.args.count)
    (no_more c.args.set c.loop-number.number
    (omega (arith, c.loop-number-test.false, c.loop-number.auto.number-end))))
