use Rattle.test_desks.proofs.stations.edit.Given as goal

abbrev pub ghosts-edit_counted : goal.ghosts-edit_counted
ghosts-edit_counted g a = record { name = a.ledger.name; parts = a.ledger.parts }
