use Rattle.test_journals.proofs.locks.held_parts.Given as goal

abbrev pub ghosts-held_in_turn : goal.ghosts-held_in_turn
ghosts-held_in_turn g a = record { table = a.blank.table; opening = a.blank.opening; stations = a.blank.stations }
