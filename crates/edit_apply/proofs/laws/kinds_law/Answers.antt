use Rattle.edit_apply.proofs.KindLaws.{rooms-suit}
use Rattle.edit_apply.proofs.laws.kinds_law.Goals as goal

pub returns : goal.returns
returns c = rooms-suit
