use Rattle.std.proofs.Common.{◌≡◌, ◌+◌, ◌≤◌, take, sum_by}
use Rattle.composables.specs.Sizes.{size_of}
use Rattle.edit_trim.specs.LinkedSlips.{moved_by}
use Rattle.link_groups.proofs.PartTracks.{part_changed}
use Rattle.edit_trim.proofs.linked_slips.move_all.Given as goal

abbrev pub invariant-loop-index : goal.invariant-loop-index
invariant-loop-index g l = record {
  named : l.named.items ≡ part_changed (moved_by l.link l.way) l.index l.fn.named.items;
  least : l.fn.steps ≤ l.steps;
  most : l.steps ≤ l.fn.steps + sum_by size_of (take l.index l.fn.named.items);
}
