use Rattle.edl_read.specs.Laying.{start_of}
use Rattle.edl_read.proofs.LaidFacts.{next_of_starts, none_next}
use Rattle.edl_read.proofs.laid.Laid.next_from.Goals as goal

pub returns-in-None-clause-none : goal.returns-in-None-clause-none
returns-in-None-clause-none c = none_next c.args.self.now c.args.channel (start_of c.starts.result.now) c.args.at c.starts.ensures c.requires c.in-None.ensures.none

pub returns-in-Some-clause-order : goal.returns-in-Some-clause-order
returns-in-Some-clause-order c =
    (next_of_starts c.args.self.now c.args.channel (start_of c.starts.result.now) c.args.at c.in-Some.field-0-0 c.in-Some.index c.event.result.now c.event.ensures.read c.starts.ensures c.requires
    c.in-Some.ensures.begins c.event.ensures.event c.in-Some.ensures.first).order

pub returns-in-Some-clause-frames : goal.returns-in-Some-clause-frames
returns-in-Some-clause-frames c =
    (next_of_starts c.args.self.now c.args.channel (start_of c.starts.result.now) c.args.at c.in-Some.field-0-0 c.in-Some.index c.event.result.now c.event.ensures.read c.starts.ensures c.requires
    c.in-Some.ensures.begins c.event.ensures.event c.in-Some.ensures.first).frames

pub returns-in-Some-clause-ended : goal.returns-in-Some-clause-ended
returns-in-Some-clause-ended c =
    (next_of_starts c.args.self.now c.args.channel (start_of c.starts.result.now) c.args.at c.in-Some.field-0-0 c.in-Some.index c.event.result.now c.event.ensures.read c.starts.ensures c.requires
    c.in-Some.ensures.begins c.event.ensures.event c.in-Some.ensures.first).ended
