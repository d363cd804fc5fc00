use Rattle.edit_journal.proofs.turn.Turn.append.Goals as goal

pub append-requires-clause-names : goal.append-requires-clause-names
append-requires-clause-names g c = rw c.deref_mut.ensures.value (rw (← c.self.view_is) at c.requires.names)

pub append-requires-clause-applies : goal.append-requires-clause-applies
append-requires-clause-applies g c = rw c.deref_mut.ensures.value (rw (← c.self.view_is) at c.requires.applies)
