use Rattle.std.proofs.Common.{◌≡◌, ℕ, ◌+◌, ◌-◌, ◌≤◌, ◌&&◌, ◌||◌, drop, length, take}
use Rattle.std.specs.List.{list_any}
use Rattle.std.specs.BTreeSet.{btree_set_len, contains}
use Rattle.composables.specs.Items.{cells_of, items_of}
use Rattle.composables.specs.Joined.{frames_in}
use Rattle.link_groups.specs.Keys.{may_have, pair_key}
use Rattle.link_groups.specs.Splits.{has_key, key_cmp}
use Rattle.link_groups.proofs.meeting.add_met.Given as goal

abbrev pub invariant-loop-index : goal.invariant-loop-index
invariant-loop-index g l = record {
  within : l.index ≤ length (items_of l.track.cells);
  items : l.items ≡ drop l.index (items_of l.track.cells);
  end : l.end ≡ frames_in (take l.index (items_of l.track.cells));
  links : (q : ℕ × ℕ) → contains key_cmp l.met q ≡ (contains key_cmp l.fn.met q || (may_have l.marks (pair_key q) && list_any (has_key q) (drop l.y (cells_of (take l.index (items_of l.track.cells))))));
  few : btree_set_len l.met ≤ btree_set_len l.fn.met + l.index;
  least : l.fn.steps ≤ l.steps;
  most : l.steps ≤ l.fn.steps + l.index;
}

abbrev pub decreases-loop-index : goal.decreases-loop-index
decreases-loop-index g l = length (items_of l.track.cells) - l.index
