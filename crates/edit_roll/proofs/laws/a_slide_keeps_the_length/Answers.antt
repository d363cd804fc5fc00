use Rattle.edit_roll.proofs.Lengths.{slide-lengths}
use Rattle.edit_roll.proofs.laws.a_slide_keeps_the_length.Goals as goal

pub returns : goal.returns
returns c = slide-lengths
