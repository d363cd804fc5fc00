use Rattle.std.proofs.Common.{◌≤◌, ◌*◌, map, take}
use Rattle.cut_mirror.specs.Walks.{IsAlong}
use Rattle.reply_audits.specs.Judging.{setting_in}
use Rattle.audit_command.specs.Explained.{Each}
use Rattle.audit_command.specs.Stations.{IsExplainedIn, recording_in}
use Rattle.audit_command.proofs.sessions.audit_stations.Given as goal

abbrev pub invariant-loop-at : goal.invariant-loop-at
invariant-loop-at l =
    IsAlong l.fn.walk l.walk × (l.first ≤ l.at * 67108865)
    × Each (IsExplainedIn (setting_in l.room) l.opening l.room.entries.now) 0 (map recording_in (take l.at l.stations))
