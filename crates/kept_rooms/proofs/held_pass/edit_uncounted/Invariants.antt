use Rattle.kept_rooms.proofs.held_pass.edit_uncounted.Given as goal

abbrev pub ghosts-edit_counted : goal.ghosts-edit_counted
ghosts-edit_counted g a = record { name = a.blank.name; parts = a.blank.parts }
