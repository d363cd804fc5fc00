use Rattle.std.proofs.Common.{◌≤◌, ◌*◌}
use Rattle.audit_command.proofs.order.places_of.Given as goal

abbrev pub invariant-loop-at : goal.invariant-loop-at
invariant-loop-at l = l.first ≤ l.at * 67108865
