use Rattle.std.proofs.Common.{ap, sym, ◌∙◌, arith}
use Rattle.edit_apply.specs.Apply.{lowest}
use Rattle.edit_apply.proofs.Lowest.{low-end, low-found, low-past}
use Rattle.edit_apply.proofs.Sets.{at_start}
use Rattle.edit_apply.proofs.naming.lowest.Goals as goal

pub loop-track-init : goal.loop-track-init
loop-track-init c = ap lowest (at_start c.args.tracks)

pub loop-track-preserved : goal.loop-track-preserved
loop-track-preserved c = c.loop-track.invariant ∙ low-past c.args.tracks c.loop-track.track c.loop-track-test.true (sym c.has_track.ensures ∙ c.if-has_track.false)

pub returns-then-has_track : goal.returns-then-has_track
returns-then-has_track c = sym (c.loop-track.invariant ∙ low-found c.args.tracks c.loop-track.track c.loop-track-test.true (sym c.has_track.ensures ∙ c.if-has_track.true))

pub returns : goal.returns
returns c = sym (c.loop-track.invariant ∙ low-end c.args.tracks c.loop-track.track (omega (arith, c.loop-track-test.false, c.loop-track.auto.track-end)))
