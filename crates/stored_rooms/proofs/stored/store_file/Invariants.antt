use Rattle.stored_rooms.proofs.stored.store_file.Given as goal

abbrev pub ghosts-store_blank : goal.ghosts-store_blank
ghosts-store_blank g a = record { table = a.blank.journal.table; opening = a.blank.journal.opening; stations = a.blank.journal.stations }
