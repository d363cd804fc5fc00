use Rattle.std.proofs.Common.{ap, sym, ◌∙◌, arith}
use Rattle.composables.specs.Links.{first_unnamed}
use Rattle.link_groups.proofs.LeastLinks.{at-end, at-start, found, passed}
use Rattle.link_groups.proofs.outside.first_unnamed.Goals as goal

pub loop-track-init : goal.loop-track-init
loop-track-init c = ap (first_unnamed c.args.named.now) (at-start c.args.tracks)

pub loop-track-preserved : goal.loop-track-preserved
loop-track-preserved c = c.loop-track.invariant ∙ passed c.args.named.now c.args.tracks c.loop-track.track c.loop-track-test.true (sym c.is_unnamed.ensures ∙ c.if-is_unnamed.false)

pub returns-then-is_unnamed : goal.returns-then-is_unnamed
returns-then-is_unnamed c =
    sym (c.loop-track.invariant ∙ found c.args.named.now c.args.tracks c.loop-track.track c.loop-track-test.true (sym c.is_unnamed.ensures ∙ c.if-is_unnamed.true))

pub returns : goal.returns
returns c = sym (c.loop-track.invariant ∙ at-end c.args.named.now c.args.tracks c.loop-track.track (omega (arith, c.loop-track-test.false, c.loop-track.auto.track-end)))
