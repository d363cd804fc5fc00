use Rattle.std.proofs.Common.{drop}
use Rattle.flatten.specs.Channels.{EachLiesInTrack}
use Rattle.test_pictures.proofs.tables.lie_in_tracks.Given as goal

abbrev pub invariant-loop-layer : goal.invariant-loop-layer
invariant-loop-layer l = EachLiesInTrack (drop l.layer-index l.layers) → EachLiesInTrack l.layers
