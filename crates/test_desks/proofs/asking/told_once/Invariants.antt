use Rattle.test_desks.proofs.asking.told_once.Given as goal

abbrev pub ghosts-told : goal.ghosts-told
ghosts-told g a = record { table = a.blank.journal.table; opening = a.blank.journal.opening; stations = a.blank.journal.stations }
