use Rattle.test_journals.proofs.counted.counters_are_an_object.Given as goal

abbrev pub ghosts-called_once : goal.ghosts-called_once
ghosts-called_once g a = record { name = a.blank.name; parts = a.blank.parts }
