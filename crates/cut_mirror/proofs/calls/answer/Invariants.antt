use Rattle.cut_mirror.proofs.calls.answer.Given as goal

abbrev pub ghosts-answer_named : goal.ghosts-answer_named
ghosts-answer_named g a = record { name = a.blank.name; parts = a.blank.parts }
