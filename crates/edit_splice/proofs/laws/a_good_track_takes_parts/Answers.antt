use Rattle.edit_splice.proofs.Allowed.{good-parts, new-parts}
use Rattle.edit_splice.proofs.laws.a_good_track_takes_parts.Goals as goal

pub returns-clause-parts : goal.returns-clause-parts
returns-clause-parts c = good-parts

pub returns-clause-new : goal.returns-clause-new
returns-clause-new c = new-parts
