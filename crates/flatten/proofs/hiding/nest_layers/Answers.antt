use Rattle.std.proofs.Common.{map}
use Rattle.flatten.specs.Hiding.{nest_layer}
use Rattle.flatten.specs.Marks.{hides_of, seen_of}
use Rattle.flatten.specs.Strips.{frames_of}
use Rattle.flatten.proofs.Building.{layer_lies}
use Rattle.flatten.proofs.FadePlaces.{composed_more, layers_more, next_nest_layer}
use Rattle.flatten.proofs.hiding.nest_layers.Goals as goal

pub sights_of-requires-clause-order : goal.sights_of-requires-clause-order
sights_of-requires-clause-order c = (layer_lies c.args.layers.now c.loop-layer.layer-index c.layer-item.result c.loop-layer-test.true c.layer-item.is c.requires.layers).order

pub sights_of-requires-clause-within : goal.sights_of-requires-clause-within
sights_of-requires-clause-within c = (layer_lies c.args.layers.now c.loop-layer.layer-index c.layer-item.result c.loop-layer-test.true c.layer-item.is c.requires.layers).within

pub sights_of-requires-clause-short : goal.sights_of-requires-clause-short
sights_of-requires-clause-short c = (layer_lies c.args.layers.now c.loop-layer.layer-index c.layer-item.result c.loop-layer-test.true c.layer-item.is c.requires.layers).short

pub loop-layer-preserved : goal.loop-layer-preserved
loop-layer-preserved c =
    let media = c.args.media.now in
    let shown = map frames_of c.args.nests.now in
    let hides = map hides_of c.args.marks.now in
    let ls = c.args.layers.now in
    let l = c.layer-item.result in
    let s = c.in_ok-sights.sights in
    let pushed = c.in_ok-push.ensures.ok in
    record {
      all = composed_more c.loop-layer.all c.push.new.self s pushed c.loop-layer.invariant.all c.in_ok-sights.ensures.composed;
      same =
          next_nest_layer media shown hides ls c.loop-layer.layer-index l (map seen_of c.loop-layer.all) (map seen_of c.push.new.self) (map (nest_layer media shown hides) ls) c.loop-layer-test.true c.layer-item.is
          (layers_more c.loop-layer.all c.push.new.self s (nest_layer media shown hides l) pushed c.in_ok-sights.ensures.seen) c.loop-layer.invariant.same;
    }
