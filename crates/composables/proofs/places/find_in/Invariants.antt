use Rattle.std.proofs.Common.{◌≡◌, ◌≤◌, ◌+◌, drop, take}
use Rattle.composables.specs.Joined.{frames_in}
use Rattle.composables.specs.Ranges.{range_from}
use Rattle.composables.proofs.places.find_in.Given as goal

abbrev pub invariant-loop-passed : goal.invariant-loop-passed
invariant-loop-passed g l = record {
  from : l.from ≡ l.fn.from + frames_in (take l.passed l.items);
  range : range_from l.from (drop l.passed l.items) l.item ≡ range_from l.fn.from l.items l.item;
  least : l.fn.steps ≤ l.steps;
  most : l.steps ≤ l.fn.steps + l.passed;
}
