use Rattle.std.proofs.Common.{◌≡◌, ℕ, ◌+◌, ◌-◌, ◌≤◌, ◌||◌, length, take, drop}
use Rattle.std.specs.List.{list_any}
use Rattle.composables.specs.Items.{cells_of, items_of}
use Rattle.composables.specs.Joined.{frames_in}
use Rattle.link_groups.specs.Marks.{is_marked}
use Rattle.link_groups.specs.Splits.{has_key}
use Rattle.link_groups.proofs.splits.mark_before.Given as goal

abbrev pub invariant-loop-index : goal.invariant-loop-index
invariant-loop-index g l = record {
  within : l.index ≤ length (items_of l.track.cells);
  items : l.items ≡ drop l.index (items_of l.track.cells);
  at : l.at ≡ frames_in (take l.index (items_of l.track.cells));
  marks : (q : ℕ × ℕ) → is_marked l.marks q ≡ (is_marked l.fn.marks q || list_any (has_key q) (take l.x (cells_of (take l.index (items_of l.track.cells)))));
  least : l.fn.steps ≤ l.steps;
  most : l.steps ≤ l.fn.steps + l.index;
}

abbrev pub decreases-loop-index : goal.decreases-loop-index
decreases-loop-index g l = length (items_of l.track.cells) - l.index
