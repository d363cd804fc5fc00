use Rattle.std.proofs.Common.{◌≡◌, drop}
use Rattle.composables.specs.Links.{next_link_at}
use Rattle.link_groups.proofs.splits.next_link_at.Given as goal

abbrev pub invariant-loop-track : goal.invariant-loop-track
invariant-loop-track l = next_link_at l.home l.named ≡ next_link_at l.home (drop l.track-index l.named)
