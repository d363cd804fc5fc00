use Rattle.std.proofs.Common.{◌≡◌}
use Rattle.composables.specs.TrackSets.{tracks_in}
use Rattle.edit_apply.specs.Apply.{first_absent}
use Rattle.edit_apply.proofs.Sets.{tracks_after}
use Rattle.edit_apply.proofs.naming.first_absent.Given as goal

abbrev pub invariant-loop-track : goal.invariant-loop-track
invariant-loop-track l = first_absent l.count (tracks_in l.tracks) ≡ first_absent l.count (tracks_after l.tracks l.track)
