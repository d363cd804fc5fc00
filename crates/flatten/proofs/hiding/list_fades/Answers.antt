use Rattle.std.proofs.Common.{ℕ, length, arith}
use Rattle.frame_meaning.specs.declared.frames.Frame.TheVariants.{Dark}
use Rattle.frame_meaning.specs.declared.frames.Run.{Run}
use Rattle.flatten.specs.Marks.{fades_from}
use Rattle.flatten.specs.Strips.{frames_of}
use Rattle.flatten.proofs.FadePlaces.{fades_end, fades_more}
use Rattle.flatten.proofs.Spots.{frames_left}
use Rattle.flatten.proofs.hiding.list_fades.Goals as goal

pub add_fade-requires : goal.add_fade-requires
add_fade-requires c =
    let rs = c.args.marks.now in
    omega (arith, c.requires, frames_left c.loop-run.at rs c.loop-run.run-index (record { frame = Dark; len = 0 }) (length (frames_of rs)) c.loop-run-test.true c.loop-run.invariant.left)

pub loop-run-preserved : goal.loop-run-preserved
loop-run-preserved c =
    let rs = c.args.marks.now in
    let i = c.loop-run.run-index in
    let none : Run ℕ = record { frame = Dark; len = 0 } in
    let left = frames_left c.loop-run.at rs i none (length (frames_of rs)) c.loop-run-test.true c.loop-run.invariant.left in
    record {
      same = fades_more c.loop-run.all c.add_fade.new.all c.loop-run.at c.in_ok-at.at rs i none (fades_from 0 rs) c.loop-run-test.true c.in_ok-at.ensures.end c.in_ok-at.ensures.added c.loop-run.invariant.same;
      left = omega (arith, c.in_ok-at.ensures.end, left);
    }

pub returns : goal.returns
returns c = fades_end c.loop-run.all c.loop-run.at c.args.marks.now c.loop-run.run-index (fades_from 0 c.args.marks.now) c.loop-run-test.false c.loop-run.invariant.same
