use Rattle.test_rooms.proofs.beside.edited_once.Given as goal

abbrev pub ghosts-edited : goal.ghosts-edited
ghosts-edited g a = record { name = a.ledger.name; parts = a.ledger.parts }
