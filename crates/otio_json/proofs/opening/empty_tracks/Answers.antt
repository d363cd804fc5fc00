use Rattle.otio_json.specs.Openings.{empty_track}
use Rattle.otio_json.proofs.Plain.{counted_push}
use Rattle.otio_json.proofs.opening.empty_tracks.Goals as goal

pub loop-number-preserved : goal.loop-number-preserved
loop-number-preserved c = counted_push empty_track c.loop-number.number c.loop-number.tracks c.push.new.self c.empty.result c.loop-number.invariant c.empty.ensures c.in_ok-push.ensures.ok
