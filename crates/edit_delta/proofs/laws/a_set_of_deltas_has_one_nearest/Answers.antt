use Rattle.edit_delta.proofs.Greatest.{is-nearest}
use Rattle.edit_delta.proofs.laws.a_set_of_deltas_has_one_nearest.Goals as goal

pub returns-clause-nearest : goal.returns-clause-nearest
returns-clause-nearest c = is-nearest
