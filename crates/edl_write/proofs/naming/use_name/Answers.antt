use Rattle.std.proofs.Common.{List, sym, ap, ◌∙◌}
use Rattle.reel_names.specs.declared.namer.ReelName.{ReelName}
use Rattle.reel_names.specs.Namers.{name_of}
use Rattle.reel_names.proofs.GivenNames.{with_more}
use Rattle.edl_write.proofs.Names.{used_already}
use Rattle.edl_write.proofs.naming.use_name.Goals as goal

pub returns-in-Some : goal.returns-in-Some
returns-in-Some c =
    used_already c.args.used.now c.args.reel c.in-Some.field-0 c.args.name
    (sym (ap (λ (rs : List ReelName). name_of rs c.args.reel) c.as_slice.ensures) ∙ (sym c.name_among.ensures ∙ c.in-Some.is))

pub returns : goal.returns
returns c =
    c.in_ok-push.ensures.ok
    ∙ with_more c.args.used.now c.args.reel c.args.name
    (sym (ap (λ (rs : List ReelName). name_of rs c.args.reel) c.as_slice.ensures) ∙ (sym c.name_among.ensures ∙ c.in-None.is))
