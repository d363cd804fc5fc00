use Rattle.std.proofs.Common.{◌≡◌, ◌∷◌, [], All, map}
use Rattle.composables.specs.Good.{IsGood}
use Rattle.composables.specs.TrackState.{TrackState}
use Rattle.test_one_track.proofs.edits.edit_all.Given as goal

abbrev pub invariant-loop-edit : goal.invariant-loop-edit
invariant-loop-edit g l = record {
  named : map (λ (t : TrackState). t.number) l.named.items ≡ l.number ∷ [];
  good : All (λ t. IsGood l.table t) l.named.items;
}
