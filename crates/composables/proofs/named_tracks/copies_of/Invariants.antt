use Rattle.std.proofs.Common.{◌≡◌, take}
use Rattle.composables.proofs.named_tracks.copies_of.Given as goal

abbrev pub invariant-loop-track : goal.invariant-loop-track
invariant-loop-track l = l.all.items ≡ take l.track-index l.tracks
