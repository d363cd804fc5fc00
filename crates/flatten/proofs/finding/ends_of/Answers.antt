use Rattle.std.proofs.Common.{ℕ, length, arith}
use Rattle.frame_meaning.specs.declared.frames.Frame.TheVariants.{Dark}
use Rattle.frame_meaning.specs.declared.frames.Run.{Run}
use Rattle.flatten.specs.Ends.{ends_of}
use Rattle.flatten.specs.Strips.{frames_of}
use Rattle.flatten.proofs.Spots.{ends_last, ends_more, frames_left}
use Rattle.flatten.proofs.finding.ends_of.Goals as goal

pub overflow_add-at : goal.overflow_add-at
overflow_add-at c =
    let rs = c.args.runs.now in
    omega (arith, c.requires, frames_left c.loop-run.at rs c.loop-run.run-index (record { frame = Dark; len = 0 }) (length (frames_of rs)) c.loop-run-test.true c.loop-run.invariant.left)

pub loop-run-preserved : goal.loop-run-preserved
loop-run-preserved c =
    let rs = c.args.runs.now in
    let i = c.loop-run.run-index in
    let none : Run ℕ = record { frame = Dark; len = 0 } in
    record {
      same = ends_more c.loop-run.ends c.push.new.self c.loop-run.at rs i none (ends_of 0 rs) c.loop-run-test.true c.in_ok-push.ensures.ok c.loop-run.invariant.same;
      left = frames_left c.loop-run.at rs i none (length (frames_of rs)) c.loop-run-test.true c.loop-run.invariant.left;
    }

pub returns : goal.returns
returns c = ends_last c.loop-run.ends c.loop-run.at c.args.runs.now c.loop-run.run-index (ends_of 0 c.args.runs.now) c.loop-run-test.false c.loop-run.invariant.same
