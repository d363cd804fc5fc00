use Rattle.std.proofs.Common.{◌≡◌, ◌+◌, ◌≤◌, drop, length, take, sum_by}
use Rattle.composables.specs.Sizes.{size_of}
use Rattle.link_groups.specs.FoundItems.{AreFound}
use Rattle.link_groups.specs.Linking.{are_there}
use Rattle.link_groups.proofs.linking.find_all.Given as goal

abbrev pub invariant-loop-index : goal.invariant-loop-index
invariant-loop-index g l = record {
  there : are_there l.named l.items ≡ are_there (drop l.index l.named) (drop l.index l.items);
  found : AreFound (take l.index l.named) (take l.index l.items) l.found;
  room : length l.found ≡ length l.fn.found;
  least : l.fn.steps ≤ l.steps;
  most : l.steps ≤ l.fn.steps + sum_by size_of (take l.index l.named);
}
