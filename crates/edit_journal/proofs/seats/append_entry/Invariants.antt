use Rattle.std.proofs.Common.{Some}
use Rattle.edit_journal.proofs.seats.append_entry.Given as goal

abbrev pub ghosts-append : goal.ghosts-append
ghosts-append g a = record { entry = Some a.entry.now }
