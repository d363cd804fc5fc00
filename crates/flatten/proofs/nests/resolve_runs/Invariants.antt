use Rattle.std.proofs.Common.{◌≡◌, ◌++◌, drop, map}
use Rattle.std.specs.List.{flat_map}
use Rattle.frame_meaning.specs.RunFrames.{run_frames}
use Rattle.flatten.specs.Nests.{resolved}
use Rattle.flatten.specs.Strips.{AreFit, frames_of}
use Rattle.flatten.proofs.nests.resolve_runs.Given as goal

abbrev pub invariant-loop-run : goal.invariant-loop-run
invariant-loop-run l = record {
  all : AreFit l.all;
  same : frames_of l.all ++ map (resolved l.media (map frames_of l.nests)) (flat_map run_frames (drop l.run-index l.runs))
      ≡ map (resolved l.media (map frames_of l.nests)) (flat_map run_frames l.runs);
}
