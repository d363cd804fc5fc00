use Rattle.edit_apply.proofs.Goodness.{rooms-good}
use Rattle.edit_apply.proofs.laws.good_law.Goals as goal

pub returns : goal.returns
returns c = rooms-good
