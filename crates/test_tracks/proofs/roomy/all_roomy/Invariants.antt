use Rattle.std.proofs.Common.{ℕ, ◌<◌, get_or}
use Rattle.composables.specs.Roomy.{IsRoomy}
use Rattle.composables.specs.TrackState.{TrackState}
use Rattle.test_tracks.proofs.roomy.all_roomy.Given as goal

abbrev pub invariant-loop-track : goal.invariant-loop-track
invariant-loop-track l = (k : ℕ) (d : TrackState) → k < l.track-index → IsRoomy (get_or l.named k d)
