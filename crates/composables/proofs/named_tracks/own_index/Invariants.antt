use Rattle.std.proofs.Common.{◌≡◌, drop}
use Rattle.composables.specs.OwnTracks.{track_numbered}
use Rattle.composables.proofs.named_tracks.own_index.Given as goal

abbrev pub invariant-loop-index : goal.invariant-loop-index
invariant-loop-index l = track_numbered l.number l.named ≡ track_numbered l.number (drop l.index l.named)
