use Rattle.std.proofs.Common.{◌≡◌, drop}
use Rattle.list_import.specs.Refusals.{first_refused}
use Rattle.list_import.proofs.refusing.first_refused.Given as goal

abbrev pub invariant-loop-event : goal.invariant-loop-event
invariant-loop-event l = first_refused (drop l.event-index l.events) ≡ first_refused l.events
