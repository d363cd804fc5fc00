use Rattle.std.proofs.Common.{map}
use Rattle.std.specs.List.{flat_map}
use Rattle.frame_meaning.specs.declared.cells.What.{What}
use Rattle.frame_meaning.specs.declared.frames.Frame.TheVariants.{Dark}
use Rattle.frame_meaning.specs.declared.frames.Run.{Run}
use Rattle.frame_meaning.specs.RunFrames.{run_frames}
use Rattle.flatten.specs.Nests.{resolved}
use Rattle.flatten.specs.Strips.{frames_of}
use Rattle.flatten.proofs.Resolving.{run_end, run_more, sound_get}
use Rattle.flatten.proofs.nests.resolve_runs.Goals as goal

pub add_resolved-requires-clause-run : goal.add_resolved-requires-clause-run
add_resolved-requires-clause-run c = sound_get c.args.runs.now c.loop-run.run-index (record { frame = Dark; len = 0 }) c.loop-run-test.true c.requires.runs

pub loop-run-preserved : goal.loop-run-preserved
loop-run-preserved c =
    let d : Run What = record { frame = Dark; len = 0 } in
    let change = resolved c.args.media.now (map frames_of c.args.nests.now) in
    record {
      all = c.in_ok-add_resolved.ensures.all;
      same =
          run_more change c.args.runs.now c.loop-run.run-index d (frames_of c.loop-run.all) (frames_of c.add_resolved.new.all) (map change (flat_map run_frames c.args.runs.now))
          c.loop-run-test.true c.in_ok-add_resolved.ensures.added c.loop-run.invariant.same;
    }

pub returns : goal.returns
returns c =
    let change = resolved c.args.media.now (map frames_of c.args.nests.now) in
    record {
      are = run_end change c.args.runs.now c.loop-run.run-index (frames_of c.loop-run.all) (map change (flat_map run_frames c.args.runs.now)) c.loop-run-test.false c.loop-run.invariant.same;
      fit = c.loop-run.invariant.all;
    }
