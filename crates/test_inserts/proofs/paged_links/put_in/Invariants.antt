use Rattle.std.proofs.Common.{◌≡◌, All, map}
use Rattle.composables.specs.Good.{IsGood}
use Rattle.composables.specs.TrackState.{TrackState}
use Rattle.composables.specs.TrackSets.{tracks_in}
use Rattle.test_inserts.proofs.paged_links.put_in.Given as goal

abbrev pub invariant-loop-link : goal.invariant-loop-link
invariant-loop-link g l = record {
  named : map (λ (t : TrackState). t.number) l.named.items ≡ tracks_in 7;
  good : All (λ t. IsGood l.table t) l.named.items;
}
