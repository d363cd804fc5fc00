use Rattle.std.proofs.Common.{◌≡◌, ◌+◌, arith}
use Rattle.edl_write.specs.ListEvents.{events_of}
use Rattle.edl_write.specs.Text.{list_text}
use Rattle.edl_write.proofs.Lists.{text_more}
use Rattle.edl_write.proofs.Merging.{no_event}
use Rattle.edl_write.proofs.Passing.{written_get}
use Rattle.edl_write.proofs.list.list_text.Goals as goal

pub put_event-requires-clause-event : goal.put_event-requires-clause-event
put_event-requires-clause-event c = written_get c.args.start c.args.events.now c.loop-event.event-index no_event c.loop-event-test.true c.requires.events

pub loop-event-preserved : goal.loop-event-preserved
loop-event-preserved c =
    let n : c.loop-event.number + 1 ≡ c.loop-event.event-index + 1 = omega (arith, c.loop-event.invariant.number) in
    record {
      number = n;
      so_far =
          text_more c.args.counting.now c.args.start c.args.names.now c.loop-event.number c.loop-event.event-index c.args.events.now no_event c.loop-event.text.items c.put_event.new.out.items
          (list_text c.args.counting.now (events_of c.args.start c.args.names.now c.args.events.now)) c.loop-event-test.true (c.in_ok-put_event.ensures 0) c.loop-event.invariant.so_far;
    }
