use Rattle.test_inserts.proofs.moves.agrees.Given as goal

abbrev pub ghosts-edited : goal.ghosts-edited
ghosts-edited g a = record { name = a.blank.name; parts = a.blank.parts }
