use Rattle.test_rooms.proofs.begun.counted_once.Given as goal

abbrev pub ghosts-room_counted-J-Naming : goal.ghosts-room_counted-J-Naming
ghosts-room_counted-J-Naming g a = record { table = a.blank.journal.table; opening = a.blank.journal.opening; stations = a.blank.journal.stations }

abbrev pub ghosts-room_counted-L-Ledger : goal.ghosts-room_counted-L-Ledger
ghosts-room_counted-L-Ledger g a = record { name = a.ledger.name; parts = a.ledger.parts }
