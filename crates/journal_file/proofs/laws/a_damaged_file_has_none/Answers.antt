use Rattle.journal_file.proofs.Files.{damaged_not_kept, damaged_once}
use Rattle.journal_file.proofs.laws.a_damaged_file_has_none.Goals as goal

pub returns-clause-none : goal.returns-clause-none
returns-clause-none c = damaged_not_kept

pub returns-clause-one : goal.returns-clause-one
returns-clause-one c = damaged_once
