use Rattle.std.proofs.Common.{ℕ, List, Some, None, cond, sym, ap, ◌∙◌}
use Rattle.reel_names.specs.Names.{is_reel_name}
use Rattle.reel_names.proofs.NameBytes.{text_refused}
use Rattle.reel_names.proofs.as_is.AsIs.free.Goals as goal

pub returns-in-None : goal.returns-in-None
returns-in-None c =
    text_refused c.args.self.now c.args.reel c.args.text.now
    (sym c.in-None.is ∙ (c.of.ensures ∙ ap (λ (t : List ℕ). cond (is_reel_name t) (Some t) None) c.as_bytes.ensures.value))
