use Rattle.std.proofs.Common.{◌≡◌, drop}
use Rattle.edl_write.specs.Refusals.{long_on}
use Rattle.edl_write.proofs.checks.long_on.Given as goal

abbrev pub invariant-loop-event : goal.invariant-loop-event
invariant-loop-event l = long_on l.channel (drop l.event-index l.events) ≡ long_on l.channel l.events
