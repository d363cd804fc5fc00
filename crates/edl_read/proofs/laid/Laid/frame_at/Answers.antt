use Rattle.std.proofs.Common.{sym, ◌∙◌, arith}
use Rattle.edl_read.specs.Laying.{start_of}
use Rattle.edl_read.proofs.LaidFacts.{last_ended, last_shown, none_last}
use Rattle.edl_read.proofs.laid.Laid.frame_at.Goals as goal

pub returns-then-frame-event : goal.returns-then-frame-event
returns-then-frame-event c =
    c.frame_at.ensures
    ∙ sym (last_shown c.args.self.now c.args.channel (start_of c.starts.result.now) c.args.frame c.in-Some.field-0-0 c.in-Some.index c.event-event.result.now c.event-event.ensures.read c.starts.ensures
    c.in-Some.ensures.begins.1 c.event-event.ensures.event c.in-Some.ensures.begins.0 c.if-frame-event.true)

pub returns-in-None : goal.returns-in-None
returns-in-None c = sym (none_last c.args.self.now c.args.channel (start_of c.starts.result.now) c.args.frame c.starts.ensures c.in-None.ensures.none)

pub returns-else-frame-event : goal.returns-else-frame-event
returns-else-frame-event c =
    sym (last_ended c.args.self.now c.args.channel (start_of c.starts.result.now) c.args.frame c.in-Some.field-0-0 c.in-Some.index c.event-event.result.now c.event-event.ensures.read c.starts.ensures
    c.in-Some.ensures.begins.1 c.event-event.ensures.event c.in-Some.ensures.begins.0 c.in-Some.ensures.last (omega (arith, c.if-frame-event.false)))
