use Rattle.test_inserts.proofs.three_tracks.play_three.Given as goal

abbrev pub ghosts-edit_all_three : goal.ghosts-edit_all_three
ghosts-edit_all_three g a = record { name = a.blank.name; parts = a.blank.parts }
