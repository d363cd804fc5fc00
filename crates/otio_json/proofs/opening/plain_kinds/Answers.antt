use Rattle.std.proofs.Common.{refl}
use Rattle.composables.specs.declared.media.Kind.TheVariants.{Video}
use Rattle.otio_json.proofs.Plain.{counted_push}
use Rattle.otio_json.proofs.opening.plain_kinds.Goals as goal

pub loop-track-preserved : goal.loop-track-preserved
loop-track-preserved c = counted_push (λ _. Video) c.loop-track.track c.loop-track.kinds c.push.new.self Video c.loop-track.invariant refl c.in_ok-push.ensures.ok
