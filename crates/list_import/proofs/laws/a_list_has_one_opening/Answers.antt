use Rattle.list_import.proofs.OneImport.{one_import}
use Rattle.list_import.proofs.laws.a_list_has_one_opening.Goals as goal

pub returns : goal.returns
returns c = one_import
