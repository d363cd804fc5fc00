use Rattle.std.proofs.Common.{map}
use Rattle.flatten.specs.Nests.{layer_frames}
use Rattle.flatten.specs.Strips.{frames_of}
use Rattle.flatten.proofs.Building.{fit_more, layer_lies, next_layer, strip_more}
use Rattle.flatten.proofs.nests.layer_strips.Goals as goal

pub strip_of-requires-clause-order : goal.strip_of-requires-clause-order
strip_of-requires-clause-order c = (layer_lies c.args.layers.now c.loop-layer.layer-index c.layer-item.result c.loop-layer-test.true c.layer-item.is c.requires.layers).order

pub strip_of-requires-clause-within : goal.strip_of-requires-clause-within
strip_of-requires-clause-within c = (layer_lies c.args.layers.now c.loop-layer.layer-index c.layer-item.result c.loop-layer-test.true c.layer-item.is c.requires.layers).within

pub strip_of-requires-clause-short : goal.strip_of-requires-clause-short
strip_of-requires-clause-short c = (layer_lies c.args.layers.now c.loop-layer.layer-index c.layer-item.result c.loop-layer-test.true c.layer-item.is c.requires.layers).short

pub loop-layer-preserved : goal.loop-layer-preserved
loop-layer-preserved c =
    let media = c.args.media.now in
    let nests = map frames_of c.args.nests.now in
    let ls = c.args.layers.now in
    let l = c.layer-item.result in
    let pushed = c.in_ok-push.ensures.ok in
    record {
      all = fit_more c.loop-layer.all c.push.new.self c.in_ok-strip.strip pushed c.loop-layer.invariant.all c.in_ok-strip.ensures.fit;
      same =
          next_layer media nests ls c.loop-layer.layer-index l (map frames_of c.loop-layer.all) (map frames_of c.push.new.self) (map (layer_frames media nests) ls) c.loop-layer-test.true c.layer-item.is
          (strip_more c.loop-layer.all c.push.new.self c.in_ok-strip.strip (layer_frames media nests l) pushed c.in_ok-strip.ensures.are) c.loop-layer.invariant.same;
    }
