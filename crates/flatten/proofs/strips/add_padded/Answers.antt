use Rattle.std.proofs.Common.{◌∙◌, arith, refl}
use Rattle.frame_meaning.specs.declared.frames.Frame.TheVariants.{Dark}
use Rattle.flatten.specs.Strips.{left_from}
use Rattle.flatten.proofs.Parts.{added_dark, added_part, pushed_fit, passed_part}
use Rattle.flatten.proofs.strips.add_padded.Goals as goal

pub loop-left-smaller : goal.loop-left-smaller
loop-left-smaller c = omega (arith, c.in-Some.ensures.fit.filled, c.in-Some.ensures.most)

pub loop-left-preserved : goal.loop-left-preserved
loop-left-preserved c =
    let here = left_from c.args.runs.now c.loop-left.here in
    let after = left_from c.args.runs.now c.in-Some.behind in
    let pushed = c.in_ok-push-in-Some.ensures.ok in
    record {
      all = pushed_fit c.loop-left.all c.push.new.self c.in-Some.run' pushed c.loop-left.invariant.all c.in-Some.ensures.fit;
      spot = c.in-Some.ensures.spot;
      frames = passed_part here after c.in-Some.run' c.loop-left.left c.in-Some.ensures.frames c.in-Some.ensures.most ∙ c.loop-left.invariant.frames;
      added = added_part c.loop-left.all c.push.new.self here after c.in-Some.run' c.loop-left.left pushed c.in-Some.ensures.frames c.in-Some.ensures.most ∙ c.loop-left.invariant.added;
    }

pub returns-in-None-clause-added : goal.returns-in-None-clause-added
returns-in-None-clause-added c =
    added_dark c.loop-left.all c.push-in-None.new.self (left_from c.args.runs.now c.loop-left.here) (record { frame = Dark; len = c.loop-left.left }) c.loop-left.left
    c.in_ok-push-in-None.ensures.ok (c.in-None.ensures.end refl) refl
    ∙ c.loop-left.invariant.added

pub returns-in-None-clause-all : goal.returns-in-None-clause-all
returns-in-None-clause-all c =
    pushed_fit c.loop-left.all c.push-in-None.new.self (record { frame = Dark; len = c.loop-left.left }) c.in_ok-push-in-None.ensures.ok c.loop-left.invariant.all
    (record { filled = c.loop-left-test.true; reaches = tt })
