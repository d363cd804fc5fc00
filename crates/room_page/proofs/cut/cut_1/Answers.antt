use Rattle.std.proofs.Common.{refl}
use Rattle.room_page.specs.PageCut.{cut_1}
use Rattle.room_page.proofs.cut.cut_1.Goals as goal

pub returns : goal.returns
unfolding cut_1
returns c = refl
