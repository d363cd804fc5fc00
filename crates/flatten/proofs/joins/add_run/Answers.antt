use Rattle.std.proofs.Common.{ℕ, ◌++◌, List, Option, true, false, sym, ap, ◌∙◌, arith}
use Rattle.frame_meaning.specs.declared.frames.Frame.{Frame}
use Rattle.frame_meaning.specs.declared.frames.Run.{Run}
use Rattle.frame_meaning.specs.RunFrames.{run_frames}
use Rattle.flatten.specs.Channels.{maximal_runs}
use Rattle.flatten.specs.Strips.{held_frames}
use Rattle.flatten.proofs.Joining.{apart, follows, held_fit, joined_fit, joined_frames, length-held, tested}
use Rattle.flatten.proofs.joins.add_run.Goals as goal

pub overflow_add-result : goal.overflow_add-result
overflow_add-result c = omega (arith, c.requires.short, length-held c.args.held c.in-Some.before c.in-Some.is)

pub returns-then-goes_on-clause-len : goal.returns-then-goes_on-clause-len
returns-then-goes_on-clause-len c = omega (arith, length-held c.args.held c.in-Some.before c.in-Some.is)

pub returns-then-goes_on-clause-added : goal.returns-then-goes_on-clause-added
returns-then-goes_on-clause-added c rest =
    let q = c.in-Some.before in
    let goes = tested q c.args.run c.later_frame-last.result c.goes_on.result true c.goes_on.ensures c.later_frame-last.ensures c.if-goes_on.true in
    ap (λ (fs : List (Frame ℕ)). c.args.all.now ++ maximal_runs fs)
    (joined_frames q c.args.run rest (follows q c.args.run (held_fit c.args.held q c.in-Some.is c.requires.held).filled goes)
    ∙ ap (λ (o : Option (Run ℕ)). held_frames o ++ run_frames c.args.run ++ rest) (sym c.in-Some.is))

pub returns-then-goes_on-clause-fit : goal.returns-then-goes_on-clause-fit
returns-then-goes_on-clause-fit c =
    let q = c.in-Some.before in
    let fit = held_fit c.args.held q c.in-Some.is c.requires.held in
    let goes = tested q c.args.run c.later_frame-last.result c.goes_on.result true c.goes_on.ensures c.later_frame-last.ensures c.if-goes_on.true in
    joined_fit q c.args.run fit c.requires.run (follows q c.args.run fit.filled goes)

pub returns-clause-added : goal.returns-clause-added
returns-clause-added c rest =
    let q = c.in-Some.before in
    apart c.args.all.now c.push.new.self q c.args.run rest c.in_ok-push.ensures.ok (held_fit c.args.held q c.in-Some.is c.requires.held) c.requires.run
    (tested q c.args.run c.later_frame-last.result c.goes_on.result false c.goes_on.ensures c.later_frame-last.ensures c.if-goes_on.false)
    ∙ ap (λ (o : Option (Run ℕ)). c.args.all.now ++ maximal_runs (held_frames o ++ run_frames c.args.run ++ rest)) (sym c.in-Some.is)
