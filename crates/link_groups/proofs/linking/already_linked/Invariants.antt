use Rattle.std.proofs.Common.{◌≡◌, drop}
use Rattle.link_groups.specs.FoundItems.{already_found}
use Rattle.link_groups.proofs.linking.already_linked.Given as goal

abbrev pub invariant-loop-index : goal.invariant-loop-index
invariant-loop-index l =
    already_found l.named l.items l.found ≡ already_found (drop l.index l.named) (drop l.index l.items) (drop l.index l.found)
