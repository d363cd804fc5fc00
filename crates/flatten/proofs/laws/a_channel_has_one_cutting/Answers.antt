use Rattle.flatten.proofs.OneCutting.{cut_one_way}
use Rattle.flatten.proofs.laws.a_channel_has_one_cutting.Goals as goal

pub returns : goal.returns
returns c = cut_one_way
