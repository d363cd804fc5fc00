use Rattle.std.proofs.Common.{refl}
use Rattle.room_page.specs.PageRoom.{room_1}
use Rattle.room_page.proofs.room.room_1.Goals as goal

pub returns : goal.returns
unfolding room_1
returns c = refl
