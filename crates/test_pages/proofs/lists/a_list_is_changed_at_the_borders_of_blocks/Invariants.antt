use Rattle.test_pages.proofs.lists.a_list_is_changed_at_the_borders_of_blocks.Given as goal

abbrev pub ghosts-changes : goal.ghosts-changes
ghosts-changes g a = record { name = a.blank.name; parts = a.blank.parts }
