use Rattle.std.proofs.Common.{◌≡◌, ◌+◌, length, sym, ap, ◌∙◌, arith}
use Rattle.reel_names.specs.Namers.{has_name, numbered_name}
use Rattle.reel_names.proofs.GivenNames.{number_free, numbered_more, unnamed_reel, with_kept, with_more}
use Rattle.reel_names.proofs.numbered.NumberedReelNamer.name.Goals as goal

pub returns-in-Some-clause-grows : goal.returns-in-Some-clause-grows
returns-in-Some-clause-grows c = rw (← c.self.view_is) (with_kept c.self.inside.given c.args.reel c.in-Some.name (sym c.name_of.ensures.name ∙ c.in-Some.is))

pub push-requires-clause-reel : goal.push-requires-clause-reel
push-requires-clause-reel c = unnamed_reel c.self.inside.given c.args.reel (sym c.name_of.ensures.name ∙ c.in-None.is)

pub push-requires-clause-name : goal.push-requires-clause-name
push-requires-clause-name c =
    ap (has_name c.self.inside.given) c.numbered_name-name.ensures
    ∙ number_free 1 (c.count-count.result + 1) c.self.inside.given c.self.invariant (omega (arith, c.count-count.ensures.count)) (omega (arith, c.if-count-ge-MAX_NUMBERED.false))

pub invariant_of-self-2 : goal.invariant_of-self-2
invariant_of-self-2 c =
    let n : c.count-count.result + 1 ≡ 1 + length c.self.inside.given = omega (arith, c.count-count.ensures.count) in
    rw c.in_ok-push.ensures.ok
    (numbered_more 1 c.self.inside.given (record { reel = c.args.reel; name = c.numbered_name-name.result }) c.self.invariant (c.numbered_name-name.ensures ∙ ap numbered_name n))

pub returns-clause-grows : goal.returns-clause-grows
returns-clause-grows c =
    rw (← c.self.view_is) (c.in_ok-push.ensures.ok ∙ with_more c.self.inside.given c.args.reel c.numbered_name-name.result (sym c.name_of.ensures.name ∙ c.in-None.is))

pub returns-clause-names : goal.returns-clause-names
returns-clause-names c = c.in_ok-push.ensures.names
