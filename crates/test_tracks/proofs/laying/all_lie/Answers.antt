use Rattle.composables.proofs.Frames.{no_view}
use Rattle.test_tracks.proofs.Laid.{lies_more, not_inside}
use Rattle.test_tracks.proofs.laying.all_lie.Goals as goal

pub loop-index-preserved : goal.loop-index-preserved
loop-index-preserved c =
    lies_more c.args.table.now c.args.views.now c.loop-index.index no_view c.mark_at-tail.result c.loop-index-test.true c.mark_at-tail.ensures
    (rw (c.left_reach.ensures, c.right_reach.ensures) at c.lies_in.ensures.0 c.if-not-lies_in.false) c.loop-index.invariant

pub returns-then-not-lies_in : goal.returns-then-not-lies_in
returns-then-not-lies_in c =
    not_inside c.args.table.now c.args.views.now c.loop-index.index no_view c.mark_at-tail.result c.lies_in.result
    c.loop-index-test.true c.mark_at-tail.ensures (rw (c.left_reach.ensures, c.right_reach.ensures) at c.lies_in.ensures) c.if-not-lies_in.true c.loop-index.invariant
