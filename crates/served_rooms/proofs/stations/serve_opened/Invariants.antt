use Rattle.served_rooms.proofs.stations.serve_opened.Given as goal

abbrev pub ghosts-serve_blank : goal.ghosts-serve_blank
ghosts-serve_blank g a = record { table = a.blank.journal.table; opening = a.blank.journal.opening; stations = a.blank.journal.stations }
