use Rattle.std.proofs.Common.{◌≡◌, drop}
use Rattle.composables.specs.TrackState.{next_past_all}
use Rattle.composables.specs.TrackFacts.{NumbersBelow}
use Rattle.composables.proofs.numbers.number_past_all.Given as goal

abbrev pub invariant-loop-view : goal.invariant-loop-view
invariant-loop-view l = record {
  same : next_past_all l.past (drop l.view-index l.items) ≡ next_past_all l.fn.next l.items;
  below : NumbersBelow 4294967295 (drop l.view-index l.items);
}
