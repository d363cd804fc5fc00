use Rattle.otio_tracks.proofs.building.track_of.Given as goal

abbrev pub ghosts-track_counted : goal.ghosts-track_counted
ghosts-track_counted a = record { name = a.blank.name; parts = a.blank.parts }
