use Rattle.std.proofs.Common.{subst}
use Rattle.json_tokens.specs.Reading.{Gives}
use Rattle.json_tree.specs.View.{tree_of}
use Rattle.json_tree.proofs.ValueLaws.{is_found}
use Rattle.json_tree.proofs.AgainLaws.{document_again}
use Rattle.json_tree.proofs.PlacedFaults.{fault_placed}
use Rattle.json_tree.proofs.FewValues.{found_small}
use Rattle.json_tree.proofs.document.read.Goals as goal

pub returns-clause-found : goal.returns-clause-found
returns-clause-found c = is_found c.args.bytes.now c.document.result c.document.ensures

pub returns-clause-only : goal.returns-clause-only
returns-clause-only c = λ tree fits spelled. subst (λ f. Gives tree_of c.document.result f) (document_again c.args.bytes.now tree fits spelled) c.document.ensures

pub returns-clause-placed : goal.returns-clause-placed
returns-clause-placed c = fault_placed c.args.bytes.now c.document.result c.document.ensures

pub returns-clause-few : goal.returns-clause-few
returns-clause-few c = found_small tree_of c.args.bytes.now c.document.result (is_found c.args.bytes.now c.document.result c.document.ensures)
