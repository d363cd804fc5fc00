use Rattle.std.proofs.Common.{refl}
use Rattle.room_page.specs.PageCut.{cut_3}
use Rattle.room_page.proofs.cut.cut_3.Goals as goal

pub returns : goal.returns
unfolding cut_3
returns c = refl
