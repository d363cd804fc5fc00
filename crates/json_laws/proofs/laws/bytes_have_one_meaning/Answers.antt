use Rattle.json_laws.proofs.OneMeaning.{has_meaning, one_tree}
use Rattle.json_laws.proofs.laws.bytes_have_one_meaning.Goals as goal

pub returns-clause-one_tree : goal.returns-clause-one_tree
returns-clause-one_tree c = one_tree

pub returns-clause-some : goal.returns-clause-some
returns-clause-some c = has_meaning
