use Rattle.std.proofs.Common.{refl}
use Rattle.otio_json.specs.Openings.{plain_media}
use Rattle.otio_json.proofs.Plain.{counted_push}
use Rattle.otio_json.proofs.opening.plain_media_list.Goals as goal

pub loop-reel-preserved : goal.loop-reel-preserved
loop-reel-preserved c = counted_push plain_media c.loop-reel.reel c.loop-reel.media c.push.new.self (plain_media c.loop-reel.reel) c.loop-reel.invariant refl c.in_ok-push.ensures.ok
