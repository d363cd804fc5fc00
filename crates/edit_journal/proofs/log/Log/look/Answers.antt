use Rattle.edit_journal.proofs.log.Log.look.Goals as goal

pub returns-clause-journal : goal.returns-clause-journal
returns-clause-journal g c = rw (← c.self.view_is) c.self.invariant.5.journal

pub returns-clause-agree : goal.returns-clause-agree
returns-clause-agree g c = rw (← c.self.view_is) c.look.ensures.agrees
