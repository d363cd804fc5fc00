use Rattle.std.proofs.Common.{ℕ, map}
use Rattle.flatten.specs.Hiding.{nothing, seen_on}
use Rattle.flatten.specs.Marks.{extent, seen_of}
use Rattle.flatten.proofs.Marking.{composed_get, next_extent, next_sight}
use Rattle.flatten.proofs.sights.lay_layers.Goals as goal

pub lay_layer-requires-clause-layer : goal.lay_layer-requires-clause-layer
lay_layer-requires-clause-layer c = composed_get c.args.layers.now c.loop-layer.layer-index c.layer-item.result c.loop-layer-test.true c.layer-item.is c.requires

pub loop-layer-preserved : goal.loop-layer-preserved
loop-layer-preserved c =
    let ls = c.args.layers.now in
    let i = c.loop-layer.layer-index in
    let x = c.layer-item.result in
    let below = c.loop-layer.below in
    let more = c.in_ok-below.below in
    let frames = c.in_ok-below.ensures.frames in
    let marks = c.in_ok-below.ensures.marks in
    record {
      composed = record { frames = frames.fit; marks = marks.fit };
      same = λ (q : ℕ). next_sight ls i q x below more (seen_on nothing (map seen_of ls) q) c.loop-layer-test.true c.layer-item.is frames.are marks.are (c.loop-layer.invariant.same q);
      most = next_extent ls i (extent (map seen_of ls)) x below more c.loop-layer-test.true c.layer-item.is frames.are marks.are c.loop-layer.invariant.most;
    }
