use Rattle.std.proofs.Common.{◌≡◌, drop}
use Rattle.edl_events.specs.Events.{AreEvents}
use Rattle.edl_events.specs.Tape.{tape_at}
use Rattle.edl_events.proofs.plain.tape_frame.Given as goal

abbrev pub invariant-loop-event : goal.invariant-loop-event
invariant-loop-event l = record {
  events : AreEvents (drop l.event-index l.events);
  same : tape_at (drop l.event-index l.events) l.channel l.frame ≡ tape_at l.events l.channel l.frame;
}
