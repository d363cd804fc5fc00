use Rattle.list_import.proofs.ReelFacts.{shot_entered}
use Rattle.list_import.proofs.naming.enter_event.Goals as goal

pub returns-clause-shot : goal.returns-clause-shot
returns-clause-shot c =
    shot_entered c.args.table.now c.enter_from.new.table c.enter_side.new.table c.args.event.now c.in_ok-from.from c.in_ok-side.side
    c.in_ok-from.ensures.table c.in_ok-side.ensures.table c.in_ok-from.ensures.side c.in_ok-side.ensures.side
