use Rattle.std.proofs.Common.{◌≡◌, ◌<◌, suc, ap, ◌∙◌, ◌-◌, arith, drop, length}
use Rattle.command_words.specs.Records.{named_by}
use Rattle.command_words.specs.WordFaults.{more_fault}
use Rattle.command_words.proofs.RecordWords.{fault_next, half_a_record_at, no_more}
use Rattle.command_words.proofs.word_faults.records_fault.Goals as goal

pub returns-then-at-count : goal.returns-then-at-count
returns-then-at-count c =
    no_more c.loop-left.left c.args.words.now c.loop-left.at (omega (arith, c.count-in-loop-left.ensures, c.if-at-count.true)) ∙ c.loop-left.invariant.same

pub returns-in-None : goal.returns-in-None
returns-in-None c =
    let some : c.loop-left.at < length c.args.words.now = omega (arith, c.loop-left.invariant.within.1, c.count-in-loop-left.ensures, c.if-at-count.false) in
    let left : suc (c.loop-left.left - 1) ≡ c.loop-left.left = omega (arith, c.loop-left-test.true) in
    half_a_record_at (c.loop-left.left - 1) c.args.words.now c.loop-left.at c.in-None.ensures.record some
    ∙ (ap (λ n. more_fault n (drop c.loop-left.at c.args.words.now)) left ∙ c.loop-left.invariant.same)

pub loop-left-preserved : goal.loop-left-preserved
loop-left-preserved c =
    let left : suc (c.loop-left.left - 1) ≡ c.loop-left.left = omega (arith, c.loop-left-test.true) in
    record {
      within = (omega (arith, c.loop-left.invariant.within.0, c.in-Some.ensures.on.0), c.in-Some.ensures.on.1);
      same =
          fault_next (c.loop-left.left - 1) (drop c.loop-left.at c.args.words.now) (named_by c.in-Some.field-0-0) (drop c.in-Some.next c.args.words.now) c.in-Some.ensures.record
          ∙ (ap (λ n. more_fault n (drop c.loop-left.at c.args.words.now)) left ∙ c.loop-left.invariant.same);
    }

pub returns : goal.returns
returns c =
    let none : 0 ≡ c.loop-left.left = omega (arith, c.loop-left-test.false) in
    c.beyond.ensures ∙ (ap (λ n. more_fault n (drop c.loop-left.at c.args.words.now)) none ∙ c.loop-left.invariant.same)
