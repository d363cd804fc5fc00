use Rattle.test_splices.proofs.tracks.gaps_that_meet_become_one.Given as goal

abbrev pub ghosts-with_more : goal.ghosts-with_more
ghosts-with_more g a = record { name = a.blank.name; parts = a.blank.parts }
