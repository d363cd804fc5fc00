use Rattle.std.proofs.Common.{refl}
use Rattle.room_page.specs.PageStyle.{style_1}
use Rattle.room_page.proofs.style.style_1.Goals as goal

pub returns : goal.returns
unfolding style_1
returns c = refl
