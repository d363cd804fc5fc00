use Rattle.std.proofs.Common.{◌∙◌, arith}
use Rattle.composables.proofs.Pieces.{last_part, last_there}
use Rattle.composables.proofs.places.last_before.Goals as goal

pub returns-clause-parts : goal.returns-clause-parts
returns-clause-parts c =
    last_part c.args.items.now c.args.index c.copied.result (omega (arith, c.if-index-eq0.false)) c.requires (c.copied.ensures ∙ c.get.ensures)

pub returns-clause-none : goal.returns-clause-none
returns-clause-none c = λ none.
    absurd (last_there c.args.items.now c.args.index c.copied.result (omega (arith, c.if-index-eq0.false)) c.requires (c.copied.ensures ∙ c.get.ensures) none)
