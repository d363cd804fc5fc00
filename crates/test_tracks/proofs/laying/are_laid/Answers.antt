use Rattle.composables.proofs.Frames.{no_view}
use Rattle.test_tracks.proofs.Laid.{laid_more, not_laid}
use Rattle.test_tracks.proofs.laying.are_laid.Goals as goal

pub loop-index-preserved : goal.loop-index-preserved
loop-index-preserved c =
    laid_more c.args.items.now c.loop-index.index c.loop-index.next c.in-Some.number c.loop-index.after_gap c.is_dark-after_gap.result no_view c.mark_at.result
    c.loop-index-test.true c.mark_at.ensures (c.holds.ensures.0 c.if-not-holds.false) c.in-Some.ensures.follows c.in-Some.ensures.number c.is_dark-after_gap.ensures
    c.loop-index.invariant

pub returns-then-not-holds : goal.returns-then-not-holds
returns-then-not-holds c =
    not_laid c.args.items.now c.loop-index.index c.loop-index.next c.loop-index.after_gap no_view c.mark_at.result c.holds.result
    c.loop-index-test.true c.mark_at.ensures c.holds.ensures c.if-not-holds.true c.loop-index.invariant
