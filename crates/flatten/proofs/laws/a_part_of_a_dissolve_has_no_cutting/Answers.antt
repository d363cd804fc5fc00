use Rattle.flatten.proofs.WholeRuns.{no_part}
use Rattle.flatten.proofs.laws.a_part_of_a_dissolve_has_no_cutting.Goals as goal

pub returns : goal.returns
returns c = no_part
