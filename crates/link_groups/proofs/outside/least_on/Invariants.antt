use Rattle.std.proofs.Common.{◌≡◌, ◌+◌, ◌-◌, ◌≤◌, drop, length, take}
use Rattle.composables.specs.Items.{cells_of, items_of}
use Rattle.composables.specs.Joined.{frames_in}
use Rattle.composables.specs.Links.{least_outside}
use Rattle.link_groups.specs.Inside.{AreInside}
use Rattle.link_groups.proofs.outside.least_on.Given as goal

abbrev pub invariant-loop-index : goal.invariant-loop-index
invariant-loop-index g l = record {
  within : l.index ≤ length (items_of l.track.cells);
  items : l.items ≡ drop l.index (items_of l.track.cells);
  to : l.to ≡ frames_in (take l.index (items_of l.track.cells));
  least : l.least ≡ least_outside l.named (drop l.y (cells_of (take l.index (items_of l.track.cells))));
  inside : AreInside l.named l.inside;
  from : l.fn.steps ≤ l.steps;
  most : l.steps ≤ l.fn.steps + l.index;
}

abbrev pub decreases-loop-index : goal.decreases-loop-index
decreases-loop-index g l = length (items_of l.track.cells) - l.index
