use Rattle.std.proofs.Common.{refl}
use Rattle.room_page.specs.PageCut.{cut_4}
use Rattle.room_page.proofs.cut.cut_4.Goals as goal

pub returns : goal.returns
unfolding cut_4
returns c = refl
