use Rattle.std.proofs.Common.{◌≡◌}
use Rattle.composables.specs.TrackSets.{tracks_in}
use Rattle.edit_apply.specs.Apply.{lowest}
use Rattle.edit_apply.proofs.Sets.{tracks_after}
use Rattle.edit_apply.proofs.naming.lowest.Given as goal

abbrev pub invariant-loop-track : goal.invariant-loop-track
invariant-loop-track l = lowest (tracks_in l.tracks) ≡ lowest (tracks_after l.tracks l.track)
