use Rattle.edit_journal.proofs.turn.Turn.look.Goals as goal

pub returns-clause-journal : goal.returns-clause-journal
returns-clause-journal g c = rw (← c.self.view_is, ← c.deref_mut.ensures.value) c.look.ensures.journal

pub returns-clause-agree : goal.returns-clause-agree
returns-clause-agree g c = rw (← c.self.view_is, ← c.deref_mut.ensures.value) c.look.ensures.agree
