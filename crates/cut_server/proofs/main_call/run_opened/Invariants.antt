use Rattle.cut_server.proofs.main_call.run_opened.Given as goal

abbrev pub ghosts-run_blank : goal.ghosts-run_blank
ghosts-run_blank g a = record { table = a.blank.journal.table; opening = a.blank.journal.opening; stations = a.blank.journal.stations }
