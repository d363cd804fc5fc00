use Rattle.test_journals.proofs.registers.a_full_journal_takes_no_entry.Given as goal

abbrev pub ghosts-filled : goal.ghosts-filled
ghosts-filled g a = record { table = a.blank.table; opening = a.blank.opening; stations = a.blank.stations }
