use Rattle.seat_lines.proofs.Plain.{one_client}
use Rattle.seat_lines.proofs.laws.two_are_one_client.Goals as goal

pub returns : goal.returns
returns c = one_client
