use Rattle.edit_splice.proofs.Outcomes.{unlinked-spliced}
use Rattle.edit_splice.proofs.laws.an_unlinked_track_stays_unlinked.Goals as goal

pub returns : goal.returns
returns c = unlinked-spliced
