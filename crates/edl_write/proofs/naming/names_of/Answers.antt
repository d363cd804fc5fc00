use Rattle.std.proofs.Common.{Ok}
use Rattle.edl_write.specs.NamingSteps.{names_at}
use Rattle.edl_write.proofs.Merging.{no_event}
use Rattle.edl_write.proofs.Names.{refused_among}
use Rattle.edl_write.proofs.naming.names_of.Goals as goal

pub returns-in-Err-clause-refused : goal.returns-in-Err-clause-refused
returns-in-Err-clause-refused g c =
    refused_among ((goal.ReelNamer-dyn g c.loop-event.namer.now).rule c.loop-event.namer.now.1) c.args.reels.now
    (Ok (names_at ((goal.ReelNamer-dyn g c.loop-event.namer.now).given c.loop-event.namer.now.1) c.loop-event.used)) c.args.events.now c.loop-event.event-index no_event c.in-Err.fault _
    c.loop-event-test.true c.in-Err.ensures.refused c.loop-event.invariant.so_far
