use Rattle.std.proofs.Common.{◌≡◌, ◌+◌, drop}
use Rattle.room_core.specs.OwnParts.{calls_of}
use Rattle.room_core.specs.Projection.{of_station}
use Rattle.made_sessions.proofs.Scripting.{Goes}
use Rattle.made_sessions.proofs.comparing.has_script.Given as goal

-- where the entries of the station that are to come are what is left of its script, all are its script
abbrev pub invariant-loop-entry : goal.invariant-loop-entry
invariant-loop-entry l =
    Goes l.fn.number l.fn.count l.fn.station l.fn.entries l.script.station l.script.place l.script.word l.left (drop l.entry-index l.entries)
