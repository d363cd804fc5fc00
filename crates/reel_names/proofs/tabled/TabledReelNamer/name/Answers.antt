use Rattle.std.proofs.Common.{sym, ◌∙◌}
use Rattle.reel_names.proofs.GivenNames.{unnamed_reel, with_kept, with_more}
use Rattle.reel_names.proofs.tabled.TabledReelNamer.name.Goals as goal

pub returns-in-Some-clause-grows : goal.returns-in-Some-clause-grows
returns-in-Some-clause-grows c = rw (← c.self.view_is) (with_kept c.self.inside.given c.args.reel c.in-Some.name (sym c.name_of.ensures.name ∙ c.in-Some.is))

pub push-requires-clause-reel : goal.push-requires-clause-reel
push-requires-clause-reel c = unnamed_reel c.self.inside.given c.args.reel (sym c.name_of.ensures.name ∙ c.in-None.is)

pub returns-in_ok-push-in-Some-free-clause-grows : goal.returns-in_ok-push-in-Some-free-clause-grows
returns-in_ok-push-in-Some-free-clause-grows c =
    rw (← c.self.view_is) (c.in_ok-push-in-Some-free.ensures.ok ∙ with_more c.self.inside.given c.args.reel c.in-Some-free.name (sym c.name_of.ensures.name ∙ c.in-None.is))

pub returns-in_ok-push-in-Some-free-clause-names : goal.returns-in_ok-push-in-Some-free-clause-names
returns-in_ok-push-in-Some-free-clause-names c = c.in_ok-push-in-Some-free.ensures.names
