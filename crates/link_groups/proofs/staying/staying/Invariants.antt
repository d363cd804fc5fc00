use Rattle.std.proofs.Common.{◌≡◌, ℕ, ◌+◌, ◌≤◌, ◌&&◌, not, take, sum_by}
use Rattle.std.specs.BTreeSet.{btree_set_len, contains}
use Rattle.std.specs.List.{list_any}
use Rattle.composables.specs.Links.{cells_before}
use Rattle.composables.specs.Sizes.{size_of}
use Rattle.link_groups.specs.Splits.{has_key, key_cmp}
use Rattle.link_groups.proofs.staying.staying.Given as goal

abbrev pub invariant-loop-track : goal.invariant-loop-track
invariant-loop-track g l = record {
  found : (q : ℕ × ℕ) → contains key_cmp l.found q ≡ (contains key_cmp l.fn.links q && list_any (has_key q) (cells_before l.x (take l.track-index l.named)));
  missing : (q : ℕ × ℕ) → contains key_cmp l.missing q ≡ (contains key_cmp l.fn.links q && not (list_any (has_key q) (cells_before l.x (take l.track-index l.named))));
  few : btree_set_len l.found + btree_set_len l.missing ≤ btree_set_len l.fn.links;
  least : l.fn.steps ≤ l.steps;
  most : l.steps ≤ l.fn.steps + sum_by size_of (take l.track-index l.named);
}
