use Rattle.test_rooms.proofs.meeting.edit_both_once.Given as goal

abbrev pub ghosts-edit_both : goal.ghosts-edit_both
ghosts-edit_both g a = record { table = a.blank.journal.table; opening = a.blank.journal.opening; stations = a.blank.journal.stations }
