use Rattle.std.proofs.Common.{◌≡◌, ◌+◌, ◌++◌, drop}
use Rattle.edl_write.specs.ListEvents.{events_behind, events_of}
use Rattle.edl_write.specs.Text.{events_text, list_text}
use Rattle.edl_write.proofs.list.list_text.Given as goal

abbrev pub invariant-loop-event : goal.invariant-loop-event
invariant-loop-event l = record {
  number : l.number ≡ l.event-index;
  so_far : l.text.items ++ events_text l.counting (l.number + 1) (events_behind l.start l.names 2 (drop l.event-index l.events))
      ≡ list_text l.counting (events_of l.start l.names l.events);
}
