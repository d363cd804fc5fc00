use Rattle.cut_mirror.proofs.calls.apply.Given as goal

abbrev pub ghosts-apply_named : goal.ghosts-apply_named
ghosts-apply_named g a = record { name = a.blank.name; parts = a.blank.parts }
