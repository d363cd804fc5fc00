use Rattle.edit_splice.proofs.Outcomes.{length-spliced_track}
use Rattle.edit_splice.proofs.laws.a_spliced_track_is_as_long_as_its_parts.Goals as goal

pub returns : goal.returns
returns c = length-spliced_track
