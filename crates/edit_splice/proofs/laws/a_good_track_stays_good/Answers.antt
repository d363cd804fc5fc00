use Rattle.edit_splice.proofs.Goodness.{good-spliced}
use Rattle.edit_splice.proofs.laws.a_good_track_stays_good.Goals as goal

pub returns : goal.returns
returns c = good-spliced
