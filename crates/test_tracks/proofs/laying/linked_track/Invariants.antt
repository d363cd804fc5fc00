use Rattle.test_tracks.proofs.laying.linked_track.Given as goal

abbrev pub ghosts-laid : goal.ghosts-laid
ghosts-laid a = record { name = a.blank.name; parts = a.blank.parts }
