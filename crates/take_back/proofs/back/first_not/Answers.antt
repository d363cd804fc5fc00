use Rattle.std.proofs.Common.{ap, sym, ◌∙◌, arith, length}
use Rattle.part_sets.proofs.Looking.{at_start}
use Rattle.take_back.specs.Parts.{first_not}
use Rattle.take_back.specs.Rules.{passes}
use Rattle.take_back.proofs.Rests.{counted, fails_here, none_left, not_looked, passed_over, passes_next}
use Rattle.take_back.proofs.back.first_not.Goals as goal
use Rattle.take_back.proofs.back.first_not.Goals.{then-has+else-not-passes, else-has}

pub loop-number-init : goal.loop-number-init
loop-number-init g c =
    let many = ap length (at_start c.args.tracks) in
    record {
      few = omega arith;
      as_many = omega (arith, many, c.requires.as_many);
      first = ap (λ ns. first_not (passes c.args.rule) ns c.args.parts.now) (sym (at_start c.args.tracks));
    }

pub bounds-parts-at : goal.bounds-parts-at
bounds-parts-at g c =
    (counted c.args.tracks c.loop-number.number c.loop-number.at _ c.loop-number-test.true
    (sym c.has.ensures ∙ c.if-has.true) c.loop-number.invariant.as_many).0

pub returns-then-not-passes : goal.returns-then-not-passes
returns-then-not-passes g c =
    let is = sym c.has.ensures ∙ c.if-has.true in
    let there = (counted c.args.tracks c.loop-number.number c.loop-number.at _ c.loop-number-test.true is
    c.loop-number.invariant.as_many).0 in
    fails_here (passes c.args.rule) c.args.tracks c.loop-number.number c.loop-number.at c.args.parts.now _ _
    c.loop-number-test.true is there
    (sym c.passes.ensures ∙ c.if-not-passes.true) c.loop-number.invariant.first

pub overflow_add-at : goal.overflow_add-at
overflow_add-at g c = omega (arith, c.loop-number.invariant.few, c.loop-number-test.true)

pub loop-number-preserved : goal.loop-number-preserved
loop-number-preserved g c =
    elim c.if-has.branch [
      | then-has+else-not-passes w ↦
          let is = sym c.has.ensures ∙ w.if-has.true in
          let next = counted c.args.tracks c.loop-number.number c.loop-number.at _ c.loop-number-test.true is
          c.loop-number.invariant.as_many in
          rw w.at-is (record {
            few = omega (arith, c.loop-number.invariant.few);
            as_many = next.1;
            first = passes_next (passes c.args.rule) c.args.tracks c.loop-number.number c.loop-number.at
                c.args.parts.now _ _ c.loop-number-test.true is next.0
                (sym w.passes.ensures ∙ w.if-not-passes.false) c.loop-number.invariant.first;
          })
      | else-has w ↦
          let is = sym c.has.ensures ∙ w.if-has.false in
          rw w.at-is (record {
            few = omega (arith, c.loop-number.invariant.few);
            as_many = passed_over c.args.tracks c.loop-number.number c.loop-number.at _ c.loop-number-test.true is
                c.loop-number.invariant.as_many;
            first = not_looked (passes c.args.rule) c.args.tracks c.loop-number.number c.loop-number.at c.args.parts.now
                _ c.loop-number-test.true is c.loop-number.invariant.first;
          })
    ]

pub returns : goal.returns
returns g c =
    none_left (passes c.args.rule) c.args.tracks c.loop-number.number c.loop-number.at c.args.parts.now _
    (omega (arith, c.loop-number-test.false, c.loop-number.auto.number-end)) c.loop-number.invariant.first
