use Rattle.std.proofs.Common.{◌≡◌, All, map}
use Rattle.composables.specs.Good.{IsGood}
use Rattle.composables.specs.TrackState.{TrackState}
use Rattle.composables.specs.TrackSets.{tracks_in}
use Rattle.test_inserts.proofs.three_tracks.edit_all_three.Given as goal

abbrev pub invariant-loop-edit : goal.invariant-loop-edit
invariant-loop-edit g l = record {
  named : map (λ (t : TrackState). t.number) l.named.items ≡ tracks_in 7;
  good : All (λ t. IsGood l.table t) l.named.items;
}
