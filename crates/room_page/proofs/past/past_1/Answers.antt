use Rattle.std.proofs.Common.{refl}
use Rattle.room_page.specs.PagePast.{past_1}
use Rattle.room_page.proofs.past.past_1.Goals as goal

pub returns : goal.returns
unfolding past_1
returns c = refl
