use Rattle.std.proofs.Common.{◌≡◌, drop}
use Rattle.edl_write.specs.ListEvents.{times_of_all}
use Rattle.edl_write.specs.Refusals.{first_past}
use Rattle.edl_write.proofs.checks.first_past.Given as goal

abbrev pub invariant-loop-event : goal.invariant-loop-event
invariant-loop-event l = first_past l.day (times_of_all l.start (drop l.event-index l.events)) ≡ first_past l.day (times_of_all l.start l.events)
