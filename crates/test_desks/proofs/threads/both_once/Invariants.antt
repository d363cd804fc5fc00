use Rattle.test_desks.proofs.threads.both_once.Given as goal

abbrev pub ghosts-both : goal.ghosts-both
ghosts-both g a = record { table = a.blank.journal.table; opening = a.blank.journal.opening; stations = a.blank.journal.stations }
