use Rattle.test_texts.proofs.editor.a_track_has_65536_items_at_most.Given as goal

abbrev pub ghosts-apply_on_zero : goal.ghosts-apply_on_zero
ghosts-apply_on_zero g a = record { name = a.blank.name; parts = a.blank.parts }
