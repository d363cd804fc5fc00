use Rattle.cut_room.proofs.committing.append.Goals as goal

pub append-requires-clause-names : goal.append-requires-clause-names
append-requires-clause-names g c = rw c.reserve.ensures.same.0 c.requires.names

pub append-requires-clause-applies : goal.append-requires-clause-applies
append-requires-clause-applies g c = rw c.reserve.ensures.same.0 c.requires.applies
