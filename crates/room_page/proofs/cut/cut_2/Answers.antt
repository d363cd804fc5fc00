use Rattle.std.proofs.Common.{refl}
use Rattle.room_page.specs.PageCut.{cut_2}
use Rattle.room_page.proofs.cut.cut_2.Goals as goal

pub returns : goal.returns
unfolding cut_2
returns c = refl
