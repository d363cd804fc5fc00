use Rattle.std.proofs.Common.{◌≤◌, ◌+◌, length}
use Rattle.composables.proofs.Finding.{Stands}
use Rattle.composables.proofs.places.find_item.Given as goal

abbrev pub invariant-loop-left : goal.invariant-loop-left
invariant-loop-left g l = record {
  stands : Stands l.items l.left l.index l.from l.item;
  least : l.fn.steps ≤ l.steps;
  most : l.steps ≤ l.fn.steps + l.index;
}

abbrev pub decreases-loop-left : goal.decreases-loop-left
decreases-loop-left g l = length l.left
