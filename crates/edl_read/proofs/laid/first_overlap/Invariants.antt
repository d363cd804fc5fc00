use Rattle.std.proofs.Common.{◌≡◌, drop}
use Rattle.edl_events.specs.Events.{AreEvents}
use Rattle.edl_read.specs.Overlaps.{first_overlap}
use Rattle.edl_read.proofs.laid.first_overlap.Given as goal

abbrev pub invariant-loop-earlier : goal.invariant-loop-earlier
invariant-loop-earlier l = record {
  events : AreEvents (drop l.earlier-index l.events);
  same : first_overlap (drop l.earlier-index l.events) l.event ≡ first_overlap l.events l.event;
}
