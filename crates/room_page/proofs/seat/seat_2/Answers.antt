use Rattle.std.proofs.Common.{refl}
use Rattle.room_page.specs.PageSeat.{seat_2}
use Rattle.room_page.proofs.seat.seat_2.Goals as goal

pub returns : goal.returns
unfolding seat_2
returns c = refl
