use Rattle.test_kept_rooms.proofs.rooms.plain_remade.Given as goal

abbrev pub ghosts-remade : goal.ghosts-remade
ghosts-remade g a = record { table = a.blank.journal.table; opening = a.blank.journal.opening; stations = a.blank.journal.stations }
