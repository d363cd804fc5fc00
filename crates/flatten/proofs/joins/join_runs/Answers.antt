use Rattle.std.proofs.Common.{◌≡◌, ℕ, ◌+◌, ◌++◌, suc, drop, length, List, ap, ◌∙◌, arith}
use Rattle.frame_meaning.specs.declared.frames.Frame.{Frame}
use Rattle.frame_meaning.specs.declared.frames.Frame.TheVariants.{Dark}
use Rattle.frame_meaning.specs.declared.frames.Run.{Run}
use Rattle.flatten.specs.Channels.{maximal_runs}
use Rattle.flatten.specs.Strips.{frames_of, held_frames}
use Rattle.flatten.proofs.Joining.{join_last, join_more, length-more, length-run, none_behind}
use Rattle.flatten.proofs.Over.{fit_get}
use Rattle.flatten.proofs.joins.join_runs.Goals as goal

pub add_run-requires-clause-run : goal.add_run-requires-clause-run
add_run-requires-clause-run c = fit_get c.args.strip.now c.loop-run.run-index (record { frame = Dark; len = 0 }) c.loop-run-test.true c.requires.fit

pub add_run-requires-clause-short : goal.add_run-requires-clause-short
add_run-requires-clause-short c =
    omega (arith, c.requires.short, c.loop-run.invariant.short, length-more c.args.strip.now c.loop-run.run-index (record { frame = Dark; len = 0 }) c.loop-run-test.true)

pub loop-run-preserved : goal.loop-run-preserved
loop-run-preserved c =
    let rs = c.args.strip.now in
    let i = c.loop-run.run-index in
    let none : Run ℕ = record { frame = Dark; len = 0 } in
    let past : length (frames_of (drop (i + 1) rs)) ≡ length (frames_of (drop (suc i) rs)) = let e : i + 1 ≡ suc i = omega arith in ap (λ (k : ℕ). length (frames_of (drop k rs))) e in
    record {
      held = c.in_ok-add_run.ensures.fit;
      short = omega (arith, past, c.in_ok-add_run.ensures.len, length-run c.in_ok-add_run.field-0, c.loop-run.invariant.short, length-more rs i none c.loop-run-test.true);
      same =
          c.in_ok-add_run.ensures.added (frames_of (drop (i + 1) rs))
          ∙ (ap (λ (fs : List (Frame ℕ)). c.loop-run.all ++ maximal_runs fs) (join_more rs i none (held_frames c.loop-run.held) c.loop-run-test.true)
          ∙ c.loop-run.invariant.same);
    }

pub returns-in_ok-push-in-Some : goal.returns-in_ok-push-in-Some
returns-in_ok-push-in-Some c =
    let rs = c.args.strip.now in
    join_last c.loop-run.all c.push.new.self c.loop-run.held c.in-Some.last (frames_of (drop c.loop-run.run-index rs)) (maximal_runs (frames_of rs)) c.in-Some.is c.loop-run.invariant.held
    (none_behind rs c.loop-run.run-index c.loop-run-test.false) c.in_ok-push-in-Some.ensures.ok c.loop-run.invariant.same
