use Rattle.std.proofs.Common.{◌≡◌, ◌+◌, ◌≤◌, take, sum_by}
use Rattle.composables.specs.Sizes.{size_of}
use Rattle.link_groups.specs.Splits.{relinked_track}
use Rattle.link_groups.proofs.PartTracks.{part_changed}
use Rattle.link_groups.proofs.renumbering.relink_whole.Given as goal

abbrev pub invariant-loop-index : goal.invariant-loop-index
invariant-loop-index g l = record {
  named : l.named.items ≡ part_changed (relinked_track l.splits l.place) l.index l.fn.named.items;
  least : l.fn.steps ≤ l.steps;
  most : l.steps ≤ l.fn.steps + sum_by size_of (take l.index l.fn.named.items);
}
