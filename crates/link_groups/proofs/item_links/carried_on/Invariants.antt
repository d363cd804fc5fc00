use Rattle.std.proofs.Common.{◌≡◌, ◌+◌, ◌-◌, ◌≤◌, drop, length}
use Rattle.std.specs.List.{list_any}
use Rattle.frame_meaning.specs.declared.cells.Cell.{Cell}
use Rattle.composables.specs.Items.{cells_of, items_of}
use Rattle.link_groups.specs.ItemLinks.{carried_on, is_elsewhere}
use Rattle.link_groups.proofs.item_links.carried_on.Given as goal

abbrev pub invariant-loop-index : goal.invariant-loop-index
invariant-loop-index g l = record {
  within : l.index ≤ length (items_of l.track.cells);
  items : l.items ≡ drop l.index (items_of l.track.cells);
  on : carried_on l.link l.own l.item l.track ≡ list_any (λ (c : Cell). is_elsewhere l.link l.own l.item l.track.number c.item c.link) (cells_of (drop l.index (items_of l.track.cells)));
  from : l.fn.steps ≤ l.steps;
  most : l.steps ≤ l.fn.steps + l.index;
}

abbrev pub decreases-loop-index : goal.decreases-loop-index
decreases-loop-index g l = length (items_of l.track.cells) - l.index
