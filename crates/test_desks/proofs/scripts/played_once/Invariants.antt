use Rattle.test_desks.proofs.scripts.played_once.Given as goal

abbrev pub ghosts-played : goal.ghosts-played
ghosts-played g a = record { table = a.blank.journal.table; opening = a.blank.journal.opening; stations = a.blank.journal.stations }
