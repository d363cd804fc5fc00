use Rattle.std.proofs.Common.{◌∙◌, sym, arith}
use Rattle.command_words.specs.declared.word_faults.Part.TheVariants as part
use Rattle.command_words.proofs.WordsBehind.{said, unsaid}
use Rattle.command_words.proofs.word_faults.parts_fault.Goals as goal

pub returns-then-not-says-clause-fault : goal.returns-then-not-says-clause-fault
returns-then-not-says-clause-fault c =
    unsaid c.args.parts.now c.args.words.now c.loop-i.i part.Document c.word-before.result.now c.word-word.result.now c.loop-i-test.true c.word-before.ensures c.word-word.ensures (sym c.says.ensures ∙ c.if-not-says.true)
    ∙ c.loop-i.invariant.same

pub loop-i-preserved : goal.loop-i-preserved
loop-i-preserved c = record {
  within = omega (arith, c.loop-i-test.true);
  said = omega (arith, c.count.ensures, c.if-count-i.false);
  same =
      said c.args.parts.now c.args.words.now c.loop-i.i part.Document c.word-before.result.now c.word-word.result.now c.loop-i-test.true c.word-before.ensures c.word-word.ensures (sym c.says.ensures ∙ c.if-not-says.false)
      ∙ c.loop-i.invariant.same;
}
