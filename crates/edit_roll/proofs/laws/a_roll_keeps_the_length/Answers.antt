use Rattle.edit_roll.proofs.Lengths.{roll-lengths}
use Rattle.edit_roll.proofs.laws.a_roll_keeps_the_length.Goals as goal

pub returns : goal.returns
returns c = roll-lengths
