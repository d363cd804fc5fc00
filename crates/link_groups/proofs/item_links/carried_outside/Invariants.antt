use Rattle.std.proofs.Common.{◌≡◌, ◌+◌, ◌≤◌, drop, take, sum_by}
use Rattle.composables.specs.Sizes.{size_of}
use Rattle.link_groups.specs.ItemLinks.{carried_outside}
use Rattle.link_groups.proofs.item_links.carried_outside.Given as goal

abbrev pub invariant-loop-track : goal.invariant-loop-track
invariant-loop-track g l = record {
  outside : carried_outside l.link l.own l.item l.named ≡ carried_outside l.link l.own l.item (drop l.track-index l.named);
  from : l.fn.steps ≤ l.steps;
  most : l.steps ≤ l.fn.steps + sum_by size_of (take l.track-index l.named);
}
