use Rattle.std.proofs.Common.{All}
use Rattle.cut_mirror.specs.Walks.{IsAlong}
use Rattle.audit_command.specs.Stations.{IsNoted}
use Rattle.audit_command.proofs.tells.note_all.Given as goal

abbrev pub invariant-loop-place : goal.invariant-loop-place
invariant-loop-place l = IsAlong l.fn.walk l.walk × All (IsNoted l.room l.fn.walk.opening l.stations) l.notes.items
