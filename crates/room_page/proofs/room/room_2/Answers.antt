use Rattle.std.proofs.Common.{refl}
use Rattle.room_page.specs.PageRoom.{room_2}
use Rattle.room_page.proofs.room.room_2.Goals as goal

pub returns : goal.returns
unfolding room_2
returns c = refl
