use Rattle.test_pages.proofs.lists.changes_one_after_another_are_as_plain_ones.Given as goal

abbrev pub ghosts-changes_on : goal.ghosts-changes_on
ghosts-changes_on g a = record { name = a.blank.name; parts = a.blank.parts }
