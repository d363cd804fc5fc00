use Rattle.json_tree.proofs.OneFault.{one_fault, no_fault_in_texts}
use Rattle.json_tree.proofs.laws.bytes_have_one_fault.Goals as goal

pub returns-clause-one : goal.returns-clause-one
returns-clause-one c = one_fault

pub returns-clause-none : goal.returns-clause-none
returns-clause-none c = no_fault_in_texts
