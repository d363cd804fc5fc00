use Rattle.test_rooms.proofs.tallied.tallied_once.Given as goal

abbrev pub ghosts-tallied-J-Naming : goal.ghosts-tallied-J-Naming
ghosts-tallied-J-Naming g a = record { table = a.blank.journal.table; opening = a.blank.journal.opening; stations = a.blank.journal.stations }

abbrev pub ghosts-tallied-L-Ledger : goal.ghosts-tallied-L-Ledger
ghosts-tallied-L-Ledger g a = record { name = a.ledger.name; parts = a.ledger.parts }
