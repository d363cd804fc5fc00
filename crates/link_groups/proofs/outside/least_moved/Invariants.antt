use Rattle.std.proofs.Common.{◌≡◌, ◌+◌, ◌*◌, ◌≤◌, take, sum_by}
use Rattle.composables.specs.Links.{cells_from, least_outside}
use Rattle.composables.specs.Sizes.{size_of}
use Rattle.link_groups.proofs.outside.least_moved.Given as goal

abbrev pub invariant-loop-track : goal.invariant-loop-track
invariant-loop-track g l = record {
  least : l.least ≡ least_outside l.named (cells_from l.y (take l.track-index l.named));
  from : l.fn.steps ≤ l.steps;
  most : 2 * l.steps ≤ 2 * l.fn.steps + 3 * sum_by size_of (take l.track-index l.named);
}
