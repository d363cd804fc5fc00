use Rattle.std.proofs.Common.{refl}
use Rattle.otio_json.proofs.Plain.{counted_push}
use Rattle.list_import.specs.ListReels.{media_of}
use Rattle.list_import.proofs.naming.media_list.Goals as goal

pub loop-reel-preserved : goal.loop-reel-preserved
loop-reel-preserved c = counted_push media_of c.loop-reel.reel c.loop-reel.media c.push.new.self (media_of c.loop-reel.reel) c.loop-reel.invariant refl c.in_ok-push.ensures.ok
