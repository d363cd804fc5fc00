use Rattle.std.proofs.Common.{◌≡◌, drop}
use Rattle.link_groups.specs.FoundItems.{found_differ, other_found}
use Rattle.link_groups.proofs.linking.offsets_differ.Given as goal

abbrev pub invariant-loop-item : goal.invariant-loop-item
invariant-loop-item l = found_differ l.found ≡ other_found l.first (drop l.item-index l.found)
