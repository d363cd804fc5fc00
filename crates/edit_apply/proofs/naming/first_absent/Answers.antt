use Rattle.std.proofs.Common.{ap, sym, ◌∙◌, arith}
use Rattle.edit_apply.specs.Apply.{first_absent}
use Rattle.edit_apply.proofs.Sets.{at_start, passed, found, at_end}
use Rattle.edit_apply.proofs.naming.first_absent.Goals as goal

pub loop-track-init : goal.loop-track-init
loop-track-init c = ap (first_absent c.args.count) (at_start c.args.tracks)

pub loop-track-preserved : goal.loop-track-preserved
loop-track-preserved c = c.loop-track.invariant ∙ passed c.args.count c.args.tracks c.loop-track.track c.loop-track-test.true (sym c.is_absent.ensures ∙ c.if-is_absent.false)

pub returns-then-is_absent : goal.returns-then-is_absent
returns-then-is_absent c =
    sym (c.loop-track.invariant ∙ found c.args.count c.args.tracks c.loop-track.track c.loop-track-test.true (sym c.is_absent.ensures ∙ c.if-is_absent.true))

pub returns : goal.returns
returns c = sym (c.loop-track.invariant ∙ at_end c.args.count c.args.tracks c.loop-track.track (omega (arith, c.loop-track-test.false, c.loop-track.auto.track-end)))
