use Rattle.std.proofs.Common.{◌≡◌, ℕ, ◌+◌, ◌-◌, ◌≤◌, ◌&&◌, ◌||◌, not, length, take, drop}
use Rattle.std.specs.BTreeSet.{btree_set_len, contains}
use Rattle.std.specs.List.{list_any}
use Rattle.composables.specs.Items.{cells_of, items_of}
use Rattle.composables.specs.Joined.{frames_in}
use Rattle.link_groups.specs.Splits.{has_key, key_cmp}
use Rattle.link_groups.proofs.staying.find_before.Given as goal

abbrev pub invariant-loop-index : goal.invariant-loop-index
invariant-loop-index g l = record {
  within : l.index ≤ length (items_of l.track.cells);
  items : l.items ≡ drop l.index (items_of l.track.cells);
  at : l.at ≡ frames_in (take l.index (items_of l.track.cells));
  found : (q : ℕ × ℕ) → contains key_cmp l.found q ≡ (contains key_cmp l.fn.found q || (contains key_cmp l.fn.missing q && list_any (has_key q) (take l.x (cells_of (take l.index (items_of l.track.cells))))));
  missing : (q : ℕ × ℕ) → contains key_cmp l.missing q ≡ (contains key_cmp l.fn.missing q && not (list_any (has_key q) (take l.x (cells_of (take l.index (items_of l.track.cells))))));
  few : btree_set_len l.found + btree_set_len l.missing ≤ btree_set_len l.fn.found + btree_set_len l.fn.missing;
  least : l.fn.steps ≤ l.steps;
  most : l.steps ≤ l.fn.steps + l.index;
}

abbrev pub decreases-loop-index : goal.decreases-loop-index
decreases-loop-index g l = length (items_of l.track.cells) - l.index
