use Rattle.std.proofs.Common.{◌+◌, ap, ◌∙◌, arith, length, drop}
use Rattle.std.specs.Prelude.{option_map}
use Rattle.command_words.specs.Records.{named_by}
use Rattle.command_words.proofs.RecordWords.{count_next, no_record_at}
use Rattle.command_words.proofs.records.record_count.Goals as goal

pub returns-in-None : goal.returns-in-None
returns-in-None c =
    let none = no_record_at c.args.words.now c.loop-at.at c.in-None.ensures.record (omega (arith, c.loop-at-test.true, c.count.ensures)) in
    ap (λ found. option_map (λ more. c.loop-at.count + more) (option_map length found)) none ∙ c.loop-at.invariant.same

pub loop-at-preserved : goal.loop-at-preserved
loop-at-preserved c = record {
  within = (
    omega (arith, c.loop-at.invariant.within.0, c.in-Some.ensures.on.0),
    c.in-Some.ensures.on.1,
    omega (arith, c.loop-at.invariant.within.2, c.in-Some.ensures.on.0),
  );
  same =
      count_next c.loop-at.count (drop c.loop-at.at c.args.words.now) (named_by c.in-Some.field-0-0) (drop c.in-Some.next c.args.words.now) c.in-Some.ensures.record
      ∙ c.loop-at.invariant.same;
}
