use Rattle.std.proofs.Common.{◌<◌, All, take}
use Rattle.audit_command.proofs.sessions.unseated.Given as goal

abbrev pub invariant-loop-entry : goal.invariant-loop-entry
invariant-loop-entry l = All (λ e. e.station < l.count) (take l.entry-index l.entries)
