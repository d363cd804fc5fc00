use Rattle.std.proofs.Common.{◌≡◌, ◌+◌, ◌-◌, ◌≤◌, length, drop, take}
use Rattle.composables.specs.Items.{items_of}
use Rattle.composables.specs.Joined.{frames_in}
use Rattle.link_groups.proofs.Relinking.{first_links, linked_track}
use Rattle.link_groups.proofs.renumbering.relink_items.Given as goal

abbrev pub invariant-loop-index : goal.invariant-loop-index
invariant-loop-index g l = record {
  within : l.index ≤ length (items_of l.old.cells);
  items : l.items ≡ drop l.index (items_of l.old.cells);
  end : l.end ≡ frames_in (take l.index (items_of l.old.cells));
  track : l.track ≡ linked_track (first_links l.splits l.place l.old l.index) l.old;
  least : l.fn.steps ≤ l.steps;
  most : l.steps ≤ l.fn.steps + l.index;
}

abbrev pub decreases-loop-index : goal.decreases-loop-index
decreases-loop-index g l = length (items_of l.old.cells) - l.index
