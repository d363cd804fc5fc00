use Rattle.std.proofs.Common.{◌≡◌, drop}
use Rattle.list_import.specs.Refusals.{first_full}
use Rattle.list_import.proofs.refusing.first_full.Given as goal

abbrev pub invariant-loop-track : goal.invariant-loop-track
invariant-loop-track l = first_full (drop l.track-index l.tracks) ≡ first_full l.tracks
