use Rattle.composables.proofs.MarkStanding.{kept-marked}
use Rattle.composables.proofs.laws.a_dissolve_may_stand_at_a_cut.Goals as goal

pub returns : goal.returns
returns c = λ t left mark kept room. kept-marked t left mark kept room
