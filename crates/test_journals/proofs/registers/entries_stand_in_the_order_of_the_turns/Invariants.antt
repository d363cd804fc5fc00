use Rattle.test_journals.proofs.registers.entries_stand_in_the_order_of_the_turns.Given as goal

abbrev pub ghosts-told : goal.ghosts-told
ghosts-told g a = record { table = a.blank.table; opening = a.blank.opening; stations = a.blank.stations }
