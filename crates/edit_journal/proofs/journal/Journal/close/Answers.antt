use Rattle.edit_journal.proofs.journal.Journal.close.Goals as goal

pub returns-clause-journal : goal.returns-clause-journal
returns-clause-journal g c = rw (← c.log.invariant.3, ← c.log.invariant.4) c.log.invariant.5.journal

pub returns-clause-passes : goal.returns-clause-passes
returns-clause-passes g c = rw (← c.log.invariant.3) (rw (← c.log.view_is) at c.take_all_back.ensures.agree)
