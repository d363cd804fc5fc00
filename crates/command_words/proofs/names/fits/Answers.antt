use Rattle.std.proofs.Common.{Some, None, List, ℕ, cond, ap, sym, ◌∙◌}
use Rattle.reel_names.specs.Names.{is_reel_name}
use Rattle.command_words.proofs.NameRows.{unfit}
use Rattle.command_words.proofs.names.fits.Goals as goal

pub returns-in-None : goal.returns-in-None
returns-in-None c =
    unfit c.args.name.now (sym c.in-None.is ∙ (c.of.ensures ∙ ap (λ (t : List ℕ). cond (is_reel_name t) (Some t) None) c.as_bytes.ensures.value))
