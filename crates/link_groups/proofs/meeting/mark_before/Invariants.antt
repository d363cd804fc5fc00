use Rattle.std.proofs.Common.{◌+◌, ◌≤◌, take, true, sum_by}
use Rattle.composables.specs.Links.{cells_before}
use Rattle.composables.specs.Sizes.{size_of}
use Rattle.link_groups.specs.Keys.{Said}
use Rattle.link_groups.proofs.meeting.mark_before.Given as goal

abbrev pub invariant-loop-track : goal.invariant-loop-track
invariant-loop-track g l = record {
  marked : Said l.marks true (cells_before l.x (take l.track-index l.named));
  least : l.fn.steps ≤ l.steps;
  most : l.steps ≤ l.fn.steps + sum_by size_of (take l.track-index l.named);
}
