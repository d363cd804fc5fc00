use Rattle.std.proofs.Common.{◌≡◌, ℕ, ◌+◌, ◌-◌, ◌≤◌, length, take, drop, true}
use Rattle.composables.specs.Items.{cells_of, items_of}
use Rattle.composables.specs.Joined.{frames_in}
use Rattle.link_groups.specs.Keys.{Said, may_have}
use Rattle.link_groups.proofs.meeting.mark_front.Given as goal

abbrev pub invariant-loop-index : goal.invariant-loop-index
invariant-loop-index g l = record {
  within : l.index ≤ length (items_of l.track.cells);
  items : l.items ≡ drop l.index (items_of l.track.cells);
  at : l.at ≡ frames_in (take l.index (items_of l.track.cells));
  grows : (k : ℕ) → may_have l.fn.marks k ≡ true → may_have l.marks k ≡ true;
  marked : Said l.marks true (take l.x (cells_of (take l.index (items_of l.track.cells))));
  least : l.fn.steps ≤ l.steps;
  most : l.steps ≤ l.fn.steps + l.index;
}

abbrev pub decreases-loop-index : goal.decreases-loop-index
decreases-loop-index g l = length (items_of l.track.cells) - l.index
