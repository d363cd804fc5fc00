use Rattle.seat_lines.proofs.Lined.{each_once}
use Rattle.seat_lines.proofs.laws.each_line_once_and_in_order.Goals as goal

pub returns : goal.returns
returns c = each_once
