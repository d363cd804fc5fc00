use Rattle.test_parts.proofs.backs.outcome_of.Given as goal

abbrev pub ghosts-outcome_counted : goal.ghosts-outcome_counted
ghosts-outcome_counted a = record { name = a.blank.name; parts = a.blank.parts }
