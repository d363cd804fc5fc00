use Rattle.seat_lines.proofs.Plain.{ended_same}
use Rattle.seat_lines.proofs.laws.long_lines_stay_long.Goals as goal

pub returns : goal.returns
returns c = ended_same
