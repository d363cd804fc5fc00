use Rattle.step_count.proofs.tests.takes_steps_with_a_brand.Given as goal

abbrev pub ghosts-two_steps : goal.ghosts-two_steps
ghosts-two_steps a = record { name = a.blank.name; parts = a.blank.parts }
