use Rattle.std.proofs.Common.{refl}
use Rattle.room_page.specs.PageRoom.{room_4}
use Rattle.room_page.proofs.room.room_4.Goals as goal

pub returns : goal.returns
unfolding room_4
returns c = refl
