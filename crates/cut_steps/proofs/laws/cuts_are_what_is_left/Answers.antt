use Rattle.cut_steps.proofs.Left.{cuts_are_left, left_is_legal}
use Rattle.cut_steps.proofs.laws.cuts_are_what_is_left.Goals as goal

pub returns-clause-tracks : goal.returns-clause-tracks
returns-clause-tracks c = cuts_are_left

pub returns-clause-legal : goal.returns-clause-legal
returns-clause-legal c = left_is_legal
