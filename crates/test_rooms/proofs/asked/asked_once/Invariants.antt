use Rattle.test_rooms.proofs.asked.asked_once.Given as goal

abbrev pub ghosts-asked-J-Naming : goal.ghosts-asked-J-Naming
ghosts-asked-J-Naming g a = record { table = a.blank.journal.table; opening = a.blank.journal.opening; stations = a.blank.journal.stations }

abbrev pub ghosts-asked-L-Ledger : goal.ghosts-asked-L-Ledger
ghosts-asked-L-Ledger g a = record { name = a.ledger.name; parts = a.ledger.parts }
