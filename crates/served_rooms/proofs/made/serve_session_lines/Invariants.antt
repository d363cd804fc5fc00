use Rattle.served_rooms.proofs.made.serve_session_lines.Given as goal

abbrev pub ghosts-serve_blank_lines : goal.ghosts-serve_blank_lines
ghosts-serve_blank_lines g a = record { table = a.blank.journal.table; opening = a.blank.journal.opening; stations = a.blank.journal.stations }
