use Rattle.test_rooms.proofs.rooms.filled_once.Given as goal

abbrev pub ghosts-filled-J-Naming : goal.ghosts-filled-J-Naming
ghosts-filled-J-Naming g a = record { table = a.blank.journal.table; opening = a.blank.journal.opening; stations = a.blank.journal.stations }

abbrev pub ghosts-filled-L-Ledger : goal.ghosts-filled-L-Ledger
ghosts-filled-L-Ledger g a = record { name = a.ledger.name; parts = a.ledger.parts }
