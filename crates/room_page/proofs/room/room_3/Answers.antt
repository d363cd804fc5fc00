use Rattle.std.proofs.Common.{refl}
use Rattle.room_page.specs.PageRoom.{room_3}
use Rattle.room_page.proofs.room.room_3.Goals as goal

pub returns : goal.returns
unfolding room_3
returns c = refl
