use Rattle.std.proofs.Common.{◌≡◌, ◌+◌, ◌-◌, ◌≤◌, drop, length}
use Rattle.composables.specs.Items.{items_of}
use Rattle.edit_trim.specs.LinkedSlips.{back_of, on_of}
use Rattle.edit_trim.proofs.LinkedMoves.{partly}
use Rattle.edit_trim.proofs.linked_slips.move_on.Given as goal

abbrev pub invariant-loop-index : goal.invariant-loop-index
invariant-loop-index g l = record {
  within : l.index ≤ length (items_of l.fn.track.cells);
  items : l.items ≡ drop l.index (items_of l.fn.track.cells);
  part : l.track ≡ partly l.link (on_of l.way) (back_of l.way) l.index l.fn.track;
  from : l.fn.steps ≤ l.steps;
  most : l.steps ≤ l.fn.steps + l.index;
}

abbrev pub decreases-loop-index : goal.decreases-loop-index
decreases-loop-index g l = length (items_of l.fn.track.cells) - l.index
