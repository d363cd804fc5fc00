use Rattle.composables.specs.Items.{items_of}
use Rattle.composables.proofs.MarkStanding.{one_place}
use Rattle.composables.proofs.laws.a_place_lies_in_one_item.Goals as goal

pub returns : goal.returns
returns c = λ cells p q at s r a b d e. one_place (items_of cells) p q at s r a b d e
