use Rattle.follow_command.proofs.Accepted.{not_refused}
use Rattle.follow_command.proofs.laws.accepted_streams_are_not_refused.Goals as goal

pub returns : goal.returns
returns c = not_refused
