use Rattle.std.proofs.Common.{Option, sym, ap, ◌∙◌}
use Rattle.composables.specs.declared.refusals.Refusal.{Refusal}
use Rattle.composables.specs.declared.refusals.Refusal.TheVariants.{NotAGap}
use Rattle.edit_insert.specs.Fills.{first_refusal}
use Rattle.edit_insert.proofs.filling.why_no_gap.Goals as goal

pub returns-in-Some : goal.returns-in-Some
returns-in-Some c = sym (ap (λ (r : Option Refusal). first_refusal r (NotAGap c.args.call.now.at)) (sym c.refusal_without.ensures ∙ c.in-Some.is))

pub returns-in-None : goal.returns-in-None
returns-in-None c = sym (ap (λ (r : Option Refusal). first_refusal r (NotAGap c.args.call.now.at)) (sym c.refusal_without.ensures ∙ c.in-None.is))
