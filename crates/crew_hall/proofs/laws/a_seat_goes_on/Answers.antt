use Rattle.crew_hall.proofs.Lives.{goes_on, lines_above}
use Rattle.crew_hall.proofs.laws.a_seat_goes_on.Goals as goal

pub returns : goal.returns
returns c = record { goes_on = goes_on c.each_line_once_and_in_order.ensures; numbers = lines_above }
