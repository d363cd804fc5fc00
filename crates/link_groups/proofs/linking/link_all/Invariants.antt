use Rattle.std.proofs.Common.{◌≡◌}
use Rattle.link_groups.proofs.Linked.{part_linked}
use Rattle.link_groups.proofs.linking.link_all.Given as goal

abbrev pub invariant-loop-index : goal.invariant-loop-index
invariant-loop-index l = l.named.items ≡ part_linked l.made l.index l.fn.named.items l.items
