use Rattle.std.proofs.Common.{drop}
use Rattle.edl_write.specs.Limits.{AreLimited}
use Rattle.test_edl_write.proofs.cuts.are_limited.Given as goal

abbrev pub invariant-loop-track : goal.invariant-loop-track
invariant-loop-track l = AreLimited (drop l.track-index l.tracks) → AreLimited l.tracks
