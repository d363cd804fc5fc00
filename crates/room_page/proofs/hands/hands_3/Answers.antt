use Rattle.std.proofs.Common.{refl}
use Rattle.room_page.specs.PageHands.{hands_3}
use Rattle.room_page.proofs.hands.hands_3.Goals as goal

pub returns : goal.returns
unfolding hands_3
returns c = refl
