use Rattle.std.proofs.Common.{◌∙◌}
use Rattle.flatten.specs.Strips.{left_from}
use Rattle.flatten.proofs.Parts.{added_rest, fewer, pushed_fit}
use Rattle.flatten.proofs.strips.add_rest.Goals as goal

pub loop-run-smaller : goal.loop-run-smaller
loop-run-smaller c = fewer (left_from c.args.runs.now c.loop-run.here) (left_from c.args.runs.now c.in-Some.behind) c.in-Some.run' c.in-Some.ensures.frames c.in-Some.ensures.fit.filled

pub loop-run-preserved : goal.loop-run-preserved
loop-run-preserved c =
    let pushed = c.in_ok-push.ensures.ok in
    record {
      all = pushed_fit c.loop-run.all c.push.new.self c.in-Some.run' pushed c.loop-run.invariant.all c.in-Some.ensures.fit;
      spot = c.in-Some.ensures.spot;
      added =
          added_rest c.loop-run.all c.push.new.self (left_from c.args.runs.now c.loop-run.here) (left_from c.args.runs.now c.in-Some.behind) c.in-Some.run' pushed c.in-Some.ensures.frames
          ∙ c.loop-run.invariant.added;
    }
