use Rattle.test_kept_lines.proofs.keeping.kept_once.Given as goal

abbrev pub ghosts-kept : goal.ghosts-kept
ghosts-kept g a = record { table = a.blank.journal.table; opening = a.blank.journal.opening; stations = a.blank.journal.stations }
