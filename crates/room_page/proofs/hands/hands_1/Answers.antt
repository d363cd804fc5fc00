use Rattle.std.proofs.Common.{refl}
use Rattle.room_page.specs.PageHands.{hands_1}
use Rattle.room_page.proofs.hands.hands_1.Goals as goal

pub returns : goal.returns
unfolding hands_1
returns c = refl
