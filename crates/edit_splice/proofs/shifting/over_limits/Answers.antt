use Rattle.std.proofs.Common.{ap, ◌∙◌, option_map}
use Rattle.composables.specs.declared.refusals.Refusal.TheVariants.{TooLong}
use Rattle.edit_splice.proofs.Firsts.{short-all}
use Rattle.edit_splice.proofs.shifting.over_limits.Goals as goal

pub first_too_many-requires-clause-short : goal.first_too_many-requires-clause-short
first_too_many-requires-clause-short g c = short-all c.args.shift.now c.args.named.now (c.first_too_long.ensures ∙ ap (option_map TooLong) c.in-None.is)
