use Rattle.test_rooms.proofs.rooms.five_answered_once.Given as goal

abbrev pub ghosts-five_answered-J-Naming : goal.ghosts-five_answered-J-Naming
ghosts-five_answered-J-Naming g a = record { table = a.blank.journal.table; opening = a.blank.journal.opening; stations = a.blank.journal.stations }

abbrev pub ghosts-five_answered-L-Ledger : goal.ghosts-five_answered-L-Ledger
ghosts-five_answered-L-Ledger g a = record { name = a.ledger.name; parts = a.ledger.parts }
