use Rattle.std.proofs.Common.{◌≡◌, ◌≤◌, ℕ, drop, length, map, max}
use Rattle.flatten.specs.Hiding.{nothing, seen_on, sight_at}
use Rattle.flatten.specs.Marks.{IsComposed, extent, seen_of}
use Rattle.flatten.specs.Strips.{frames_of}
use Rattle.flatten.proofs.sights.lay_layers.Given as goal

abbrev pub invariant-loop-layer : goal.invariant-loop-layer
invariant-loop-layer l = record {
  composed : IsComposed l.below;
  same : (q : ℕ) → seen_on (sight_at (seen_of l.below) q) (map seen_of (drop l.layer-index l.layers)) q ≡ seen_on nothing (map seen_of l.layers) q;
  most : max (max (length (frames_of l.below.frames)) (length (frames_of l.below.marks))) (extent (map seen_of (drop l.layer-index l.layers))) ≤ extent (map seen_of l.layers);
}
