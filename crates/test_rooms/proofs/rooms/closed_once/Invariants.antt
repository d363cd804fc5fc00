use Rattle.test_rooms.proofs.rooms.closed_once.Given as goal

abbrev pub ghosts-closed : goal.ghosts-closed
ghosts-closed a = record { table = a.blank.journal.table; opening = a.blank.journal.opening; stations = a.blank.journal.stations }
