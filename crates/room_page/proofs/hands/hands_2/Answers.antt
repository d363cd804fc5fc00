use Rattle.std.proofs.Common.{refl}
use Rattle.room_page.specs.PageHands.{hands_2}
use Rattle.room_page.proofs.hands.hands_2.Goals as goal

pub returns : goal.returns
unfolding hands_2
returns c = refl
