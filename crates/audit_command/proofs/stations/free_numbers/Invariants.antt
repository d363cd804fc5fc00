use Rattle.std.proofs.Common.{◌≡◌, length, take}
use Rattle.audit_command.proofs.Bearing.{SayBorne}
use Rattle.audit_command.proofs.stations.free_numbers.Given as goal

abbrev pub invariant-loop-entry : goal.invariant-loop-entry
invariant-loop-entry l = (length l.signs.items ≡ l.count) × SayBorne (take l.entry-index l.entries) l.station l.signs.items
