use Rattle.std.proofs.Common.{◌≡◌, ◌+◌, ◌≤◌, length}
use Rattle.composables.specs.TrackSets.{tracks_in}
use Rattle.line_table.proofs.TrackSets.{tracks_after}
use Rattle.line_table.proofs.parts.track_count.Given as goal

-- the tracks so far, and those to come
abbrev pub invariant-loop-track : goal.invariant-loop-track
invariant-loop-track l = (l.count + length (tracks_after l.tracks l.track) ≡ length (tracks_in l.tracks)) × (l.count ≤ l.track)
