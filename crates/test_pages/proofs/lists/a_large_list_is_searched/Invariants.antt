use Rattle.test_pages.proofs.lists.a_large_list_is_searched.Given as goal

abbrev pub ghosts-large : goal.ghosts-large
ghosts-large g a = record { name = a.blank.name; parts = a.blank.parts }
