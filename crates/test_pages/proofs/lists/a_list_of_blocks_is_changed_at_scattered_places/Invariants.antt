use Rattle.test_pages.proofs.lists.a_list_of_blocks_is_changed_at_scattered_places.Given as goal

abbrev pub ghosts-scattered : goal.ghosts-scattered
ghosts-scattered g a = record { name = a.blank.name; parts = a.blank.parts }
