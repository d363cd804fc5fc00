use Rattle.std.proofs.Common.{◌≡◌, ◌++◌, drop}
use Rattle.std.specs.List.{flat_map}
use Rattle.made_sessions.specs.Sessions.{summary_of, track_line}
use Rattle.made_sessions.proofs.summaries.summary.Given as goal

-- the lines so far and those to come are the summary
abbrev pub invariant-loop-track : goal.invariant-loop-track
invariant-loop-track l = l.out.items ++ flat_map track_line (drop l.track-index l.tracks) ≡ summary_of l.entries l.tracks
