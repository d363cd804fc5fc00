use Rattle.std.proofs.Common.{◌≡◌}
use Rattle.composables.specs.Links.{first_unnamed}
use Rattle.composables.specs.TrackSets.{tracks_in}
use Rattle.link_groups.proofs.LeastLinks.{tracks_after}
use Rattle.link_groups.proofs.outside.first_unnamed.Given as goal

abbrev pub invariant-loop-track : goal.invariant-loop-track
invariant-loop-track l = first_unnamed l.named (tracks_in l.tracks) ≡ first_unnamed l.named (tracks_after l.tracks l.track)
