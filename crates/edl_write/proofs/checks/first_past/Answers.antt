use Rattle.edl_write.proofs.Merging.{no_event}
use Rattle.edl_write.proofs.Passing.{short_get}
use Rattle.edl_write.proofs.checks.first_past.Goals as goal

pub past_in-requires-clause-short : goal.past_in-requires-clause-short
past_in-requires-clause-short c = short_get c.args.events.now c.loop-event.event-index no_event c.loop-event-test.true c.requires.short
