use Rattle.std.proofs.Common.{refl}
use Rattle.room_page.specs.PageRoom.{room_5}
use Rattle.room_page.proofs.room.room_5.Goals as goal

pub returns : goal.returns
unfolding room_5
returns c = refl
