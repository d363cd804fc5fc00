use Rattle.std.proofs.Common.{refl}
use Rattle.room_page.specs.PageSeat.{seat_1}
use Rattle.room_page.proofs.seat.seat_1.Goals as goal

pub returns : goal.returns
unfolding seat_1
returns c = refl
