use Rattle.std.proofs.Common.{◌≡◌, ◌++◌, drop, map}
use Rattle.flatten.specs.Nests.{layer_frames}
use Rattle.flatten.specs.Strips.{AllFit, frames_of}
use Rattle.flatten.proofs.nests.layer_strips.Given as goal

abbrev pub invariant-loop-layer : goal.invariant-loop-layer
invariant-loop-layer l = record {
  all : AllFit l.all;
  same : map frames_of l.all ++ map (layer_frames l.media (map frames_of l.nests)) (drop l.layer-index l.layers) ≡ map (layer_frames l.media (map frames_of l.nests)) l.layers;
}
