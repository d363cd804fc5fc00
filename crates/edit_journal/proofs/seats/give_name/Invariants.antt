use Rattle.std.proofs.Common.{Some}
use Rattle.edit_journal.proofs.seats.give_name.Given as goal

abbrev pub ghosts-give : goal.ghosts-give
ghosts-give g a = record { wanted = Some a.name }
