use Rattle.test_rooms.proofs.excerpts.told_once.Given as goal

abbrev pub ghosts-five_told-J-Naming : goal.ghosts-five_told-J-Naming
ghosts-five_told-J-Naming g a = record { table = a.blank.journal.table; opening = a.blank.journal.opening; stations = a.blank.journal.stations }

abbrev pub ghosts-five_told-L-Ledger : goal.ghosts-five_told-L-Ledger
ghosts-five_told-L-Ledger g a = record { name = a.ledger.name; parts = a.ledger.parts }
