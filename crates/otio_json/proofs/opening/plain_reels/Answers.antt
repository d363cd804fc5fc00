use Rattle.std.proofs.Common.{length, ap, ◌∙◌, arith}
use Rattle.std.proofs.lemmas.List.FromFn.{length-map-range_with_len}
use Rattle.otio_json.specs.Openings.{plain_reel}
use Rattle.otio_json.proofs.Plain.{reel_more}
use Rattle.otio_json.proofs.opening.plain_reels.Goals as goal

pub add-requires : goal.add-requires
add-requires c = omega (arith, ap length c.loop-reel.invariant, length-map-range_with_len plain_reel 0 c.loop-reel.reel, c.loop-reel-test.true, c.requires)

pub loop-reel-preserved : goal.loop-reel-preserved
loop-reel-preserved c =
    reel_more c.loop-reel.reel c.loop-reel.reels c.add.new.self c.as_str.result.now (omega (arith, c.loop-reel-test.true, c.requires)) c.loop-reel.invariant (c.as_str.ensures.value ∙ c.in_ok-name.ensures) c.in_ok-add.ensures.ok
