use Rattle.std.proofs.Common.{List, sym, ap, ◌∙◌, subst}
use Rattle.edl_events.specs.declared.event.Event.{Event}
use Rattle.edl_events.specs.Events.{AreEvents}
use Rattle.edl_read.specs.Overlaps.{AreApart, first_overlap}
use Rattle.edl_read.proofs.LaidFacts.{apart_before, event_at, item_there}
use Rattle.edl_read.proofs.tape.Tape.play.Goals as goal

pub with-requires-clause-event : goal.with-requires-clause-event
with-requires-clause-event c =
    let es : List Event = c.as_slice-events.result.now in
    event_at es c.loop-event.event-index c.event-item.result (subst (λ (l : List Event). AreEvents l) (sym c.as_slice-events.ensures) c.requires.each)
    (item_there es c.loop-event.event-index _ c.event-item.result c.loop-event-test.true c.event-item.is)

pub with-requires-clause-apart : goal.with-requires-clause-apart
with-requires-clause-apart c =
    let es : List Event = c.as_slice-events.result.now in
    ap (λ (l : List Event). first_overlap l c.event-item.result) c.loop-event.invariant
    ∙ apart_before es c.loop-event.event-index c.event-item.result (subst (λ (l : List Event). AreApart l) (sym c.as_slice-events.ensures) c.requires.apart)
    (item_there es c.loop-event.event-index _ c.event-item.result c.loop-event-test.true c.event-item.is)
