use Rattle.journal_file.proofs.Files.{same_kept}
use Rattle.journal_file.proofs.laws.a_file_has_one_list_of_records.Goals as goal

pub returns : goal.returns
returns c = same_kept
