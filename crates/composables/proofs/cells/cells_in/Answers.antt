use Rattle.composables.proofs.Frames.{no_view}
use Rattle.composables.proofs.Spans.{view_more, source_at}
use Rattle.composables.proofs.cells.cells_in.Goals as goal

pub push_cells-requires : goal.push_cells-requires
push_cells-requires c = source_at c.args.items.now c.loop-view.view-index no_view c.loop-view-test.true c.requires

pub loop-view-preserved : goal.loop-view-preserved
loop-view-preserved c =
    view_more c.loop-view.all.items c.push_cells.new.into.items _ c.args.items.now c.loop-view.view-index no_view c.loop-view-test.true c.in_ok-push_cells.ensures c.loop-view.invariant
