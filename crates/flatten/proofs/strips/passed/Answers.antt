use Rattle.std.proofs.Common.{◌∙◌, arith, refl}
use Rattle.flatten.specs.Strips.{left_from}
use Rattle.flatten.proofs.Parts.{passed_none, passed_part}
use Rattle.flatten.proofs.strips.passed.Goals as goal

pub loop-left-smaller : goal.loop-left-smaller
loop-left-smaller c = omega (arith, c.in-Some.ensures.fit.filled, c.in-Some.ensures.most)

pub loop-left-preserved : goal.loop-left-preserved
loop-left-preserved c = record {
  spot = c.in-Some.ensures.spot;
  frames =
      passed_part (left_from c.args.runs.now c.loop-left.here) (left_from c.args.runs.now c.in-Some.behind) c.in-Some.run' c.loop-left.left c.in-Some.ensures.frames c.in-Some.ensures.most
      ∙ c.loop-left.invariant.frames;
}

pub returns-in-None : goal.returns-in-None
returns-in-None c = record {
  spot = c.loop-left.invariant.spot;
  frames = passed_none (left_from c.args.runs.now c.loop-left.here) c.loop-left.left (c.in-None.ensures.end refl) ∙ c.loop-left.invariant.frames;
}
