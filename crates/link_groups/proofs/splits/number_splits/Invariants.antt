use Rattle.std.proofs.Common.{ℕ, ◌+◌, ◌≤◌, length, unwrap_or}
use Rattle.std.specs.BTreeMap.{get}
use Rattle.std.specs.BTreeSet.{btree_set_len}
use Rattle.std.specs.Ordering.{nat_cmp}
use Rattle.link_groups.specs.Splits.{key_cmp}
use Rattle.link_groups.proofs.SplitKeys.{SoFar}
use Rattle.link_groups.proofs.splits.number_splits.Given as goal

-- the keys so far, with those that are left, are all; each has its number
abbrev pub invariant-loop-key : goal.invariant-loop-key
invariant-loop-key g l = record {
  so_far : SoFar l.named l.split.keys l.key-iterator (λ (q : ℕ × ℕ). get key_cmp l.numbers q) (λ (home : ℕ). unwrap_or (get nat_cmp l.counts home) 0);
  few : (home : ℕ) → unwrap_or (get nat_cmp l.counts home) 0 + length l.key-iterator ≤ btree_set_len l.split;
  least : l.fn.steps ≤ l.steps;
  most : l.steps + length l.key-iterator ≤ l.fn.steps + btree_set_len l.split;
}
