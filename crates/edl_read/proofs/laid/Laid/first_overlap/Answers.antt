use Rattle.std.proofs.Common.{sym}
use Rattle.edl_read.proofs.LaidFacts.{clear_of_all}
use Rattle.edl_read.proofs.laid.Laid.first_overlap.Goals as goal

pub returns : goal.returns
returns c =
    sym (clear_of_all c.args.self.now c.args.event.now (c.meets.ensures c.if-meets.false) (c.meets-else-meets.ensures c.if-meets-2.false) (c.meets-else-meets-2.ensures c.if-meets-3.false))
