use Rattle.std.proofs.Common.{refl}
use Rattle.room_page.specs.PageHands.{hands_4}
use Rattle.room_page.proofs.hands.hands_4.Goals as goal

pub returns : goal.returns
unfolding hands_4
returns c = refl
