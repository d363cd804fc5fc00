use Rattle.list_import.proofs.tracks.track_of.Given as goal

abbrev pub ghosts-track_counted : goal.ghosts-track_counted
ghosts-track_counted a = record { name = a.blank.name; parts = a.blank.parts }
