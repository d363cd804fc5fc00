use Rattle.test_rooms.proofs.beside.both_go_on_once.Given as goal

abbrev pub ghosts-both_go_on : goal.ghosts-both_go_on
ghosts-both_go_on g a = record { table = a.blank.journal.table; opening = a.blank.journal.opening; stations = a.blank.journal.stations }
