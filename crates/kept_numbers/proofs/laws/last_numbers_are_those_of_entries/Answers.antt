use Rattle.kept_numbers.proofs.Entries.{of_taken, of_written}
use Rattle.kept_numbers.proofs.laws.last_numbers_are_those_of_entries.Goals as goal

pub returns : goal.returns
returns c = record { taken = of_taken; written = of_written }
