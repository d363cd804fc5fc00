use Rattle.std.proofs.Common.{◌≡◌, ℕ, ◌+◌, ◌*◌, ◌≤◌, ◌&&◌, length, take, sum_by}
use Rattle.std.specs.List.{list_any}
use Rattle.std.specs.BTreeSet.{btree_set_len, contains}
use Rattle.composables.specs.Items.{items_of}
use Rattle.composables.specs.Links.{cells_from}
use Rattle.composables.specs.Sizes.{size_of}
use Rattle.composables.specs.TrackState.{TrackState}
use Rattle.link_groups.specs.Keys.{may_have, pair_key}
use Rattle.link_groups.specs.Splits.{has_key, key_cmp}
use Rattle.link_groups.proofs.meeting.met_from.Given as goal

abbrev pub invariant-loop-track : goal.invariant-loop-track
invariant-loop-track g l = record {
  links : (q : ℕ × ℕ) → contains key_cmp l.met q ≡ (may_have l.marks (pair_key q) && list_any (has_key q) (cells_from l.y (take l.track-index l.named)));
  few : btree_set_len l.met ≤ sum_by (λ (t : TrackState). length (items_of t.cells)) (take l.track-index l.named);
  least : l.fn.steps ≤ l.steps;
  most : 2 * l.steps ≤ 2 * l.fn.steps + 3 * sum_by size_of (take l.track-index l.named);
}
