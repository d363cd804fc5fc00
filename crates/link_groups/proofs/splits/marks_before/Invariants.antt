use Rattle.std.proofs.Common.{◌≡◌, ℕ, ◌+◌, ◌≤◌, take, sum_by}
use Rattle.std.specs.List.{list_any}
use Rattle.composables.specs.Links.{cells_before}
use Rattle.composables.specs.Sizes.{size_of}
use Rattle.link_groups.specs.Marks.{is_marked}
use Rattle.link_groups.specs.Splits.{has_key}
use Rattle.link_groups.proofs.splits.marks_before.Given as goal

abbrev pub invariant-loop-track : goal.invariant-loop-track
invariant-loop-track g l = record {
  marks : (q : ℕ × ℕ) → is_marked l.marks q ≡ list_any (has_key q) (cells_before l.x (take l.track-index l.named));
  least : l.fn.steps ≤ l.steps;
  most : l.steps ≤ l.fn.steps + sum_by size_of (take l.track-index l.named);
}
