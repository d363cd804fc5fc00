use Rattle.std.proofs.Common.{◌≡◌, ◌++◌, drop, map}
use Rattle.flatten.specs.Hiding.{nest_layer}
use Rattle.flatten.specs.Marks.{AllComposed, hides_of, seen_of}
use Rattle.flatten.specs.Strips.{frames_of}
use Rattle.flatten.proofs.hiding.nest_layers.Given as goal

abbrev pub invariant-loop-layer : goal.invariant-loop-layer
invariant-loop-layer l = record {
  all : AllComposed l.all;
  same : map seen_of l.all ++ map (nest_layer l.media (map frames_of l.nests) (map hides_of l.marks)) (drop l.layer-index l.layers)
      ≡ map (nest_layer l.media (map frames_of l.nests) (map hides_of l.marks)) l.layers;
}
