use Rattle.std.proofs.Common.{◌≡◌, drop}
use Rattle.list_import.specs.Imports.{least_from, start_of}
use Rattle.list_import.proofs.refusing.start_of.Given as goal

abbrev pub invariant-loop-event : goal.invariant-loop-event
invariant-loop-event l = least_from l.start (drop l.event-index l.events) ≡ start_of l.events
