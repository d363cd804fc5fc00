use Rattle.std.proofs.Common.{◌∙◌, ap, length, rules}
use Rattle.kept_numbers.specs.Numbers.{numbered}
use Rattle.kept_numbers.proofs.Records.{at_gate, goes_on, noted_long}
use Rattle.kept_numbers.proofs.numbers.last_numbers.Goals as goal

pub loop-line-preserved : goal.loop-line-preserved
loop-line-preserved c = record {
  long = ap length c.note.ensures ∙ (noted_long (numbered c.in-Some.line.now) c.loop-line.numbers ∙ c.loop-line.invariant.long);
  goes_on = λ lines kept. rw c.note.ensures
      (goes_on lines c.loop-line.rest.now c.loop-line.numbers c.in-Some.line.now c.in-Some.after.now (c.loop-line.invariant.goes_on lines kept)
      c.loop-line.invariant.long c.in-Some.ensures.some.0 c.in-Some.ensures.some.1);
}

pub returns : goal.returns
returns c = λ lines kept. at_gate lines c.loop-line.rest.now c.loop-line.numbers (c.loop-line.invariant.goes_on lines kept)
    c.loop-line.invariant.long (c.in_default.ensures.none (search rules))
