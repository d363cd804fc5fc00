use Rattle.edit_journal.proofs.journal.Journal.close_with.Goals as goal

pub returns-clause-journal : goal.returns-clause-journal
returns-clause-journal g c = rw (← c.log.invariant.3, ← c.log.invariant.4) c.log.invariant.5.journal

pub returns-clause-passes : goal.returns-clause-passes
returns-clause-passes g c = rw (← c.log.invariant.3) (rw (← c.log.view_is) at c.take_each_back.ensures.agree)

pub returns-clause-more : goal.returns-clause-more
returns-clause-more g c = rw (← c.log.invariant.3) (rw (← c.log.view_is) at c.take_each_back.ensures.more)
