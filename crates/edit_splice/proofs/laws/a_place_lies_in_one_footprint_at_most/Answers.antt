use Rattle.edit_splice.proofs.Footprints.{one-footprint}
use Rattle.edit_splice.proofs.laws.a_place_lies_in_one_footprint_at_most.Goals as goal

pub returns : goal.returns
returns c = one-footprint
