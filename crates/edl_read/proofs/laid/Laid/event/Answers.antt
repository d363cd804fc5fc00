use Rattle.std.proofs.Common.{List, sym, subst}
use Rattle.edl_events.specs.declared.event.Event.{Event}
use Rattle.edl_events.specs.Events.{AreEvents}
use Rattle.edl_read.proofs.LaidFacts.{event_at}
use Rattle.edl_read.proofs.laid.Laid.event.Goals as goal

pub returns-clause-good : goal.returns-clause-good
returns-clause-good c =
    event_at c.as_slice-events.result.now c.args.index c.item.result.now (subst (λ (es : List Event). AreEvents es) (sym c.as_slice-events.ensures.events) c.as_slice-events.ensures.read.each) c.item.ensures
