use Rattle.std.proofs.Common.{◌∙◌}
use Rattle.composables.proofs.Pieces.{first_part, first_there}
use Rattle.composables.proofs.places.first_from.Goals as goal

pub returns-clause-parts : goal.returns-clause-parts
returns-clause-parts c = first_part c.args.items.now c.args.index c.copied.result (c.copied.ensures ∙ c.get.ensures)

pub returns-clause-none : goal.returns-clause-none
returns-clause-none c = first_there c.args.items.now c.args.index c.copied.result (c.copied.ensures ∙ c.get.ensures)
