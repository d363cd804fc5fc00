use Rattle.seat_lines.proofs.Replied.{front_of_written, replies_within}
use Rattle.seat_lines.proofs.laws.replies_without_a_gap.Goals as goal

pub returns-clause-front : goal.returns-clause-front
returns-clause-front c = front_of_written

pub returns-clause-numbers : goal.returns-clause-numbers
returns-clause-numbers c = replies_within
