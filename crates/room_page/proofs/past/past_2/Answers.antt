use Rattle.std.proofs.Common.{refl}
use Rattle.room_page.specs.PagePast.{past_2}
use Rattle.room_page.proofs.past.past_2.Goals as goal

pub returns : goal.returns
unfolding past_2
returns c = refl
