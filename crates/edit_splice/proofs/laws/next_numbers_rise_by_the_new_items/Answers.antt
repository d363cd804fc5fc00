use Rattle.edit_splice.proofs.Outcomes.{next-bounds}
use Rattle.edit_splice.proofs.laws.next_numbers_rise_by_the_new_items.Goals as goal

pub returns : goal.returns
returns c = next-bounds
