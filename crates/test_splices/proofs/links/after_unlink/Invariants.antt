use Rattle.test_splices.proofs.links.after_unlink.Given as goal

abbrev pub ghosts-undo : goal.ghosts-undo
ghosts-undo a = record { name = a.blank.name; parts = a.blank.parts }
