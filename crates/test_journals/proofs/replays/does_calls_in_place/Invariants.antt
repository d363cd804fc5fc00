use Rattle.test_journals.proofs.replays.does_calls_in_place.Given as goal

abbrev pub ghosts-called : goal.ghosts-called
ghosts-called g a = record { name = a.blank.name; parts = a.blank.parts }
