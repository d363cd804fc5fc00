use Rattle.std.proofs.Common.{◌++◌, ap}
use Rattle.composables.proofs.Spans.{from-zero, cell_more, cells_all}
use Rattle.composables.proofs.cells.push_cells.Goals as goal

pub loop-k-init : goal.loop-k-init
loop-k-init c = ap (λ cs. c.args.into.now.items ++ cs) (from-zero c.args.view.now)

pub loop-k-preserved : goal.loop-k-preserved
loop-k-preserved c =
    cell_more c.loop-k.into.items c.push.new.self.items _ c.args.view.now c.cell_of.result c.loop-k.k c.loop-k-test.true c.in_ok-push.ensures.items c.cell_of.ensures c.loop-k.invariant

pub returns : goal.returns
returns c = cells_all c.loop-k.into.items _ c.args.view.now c.loop-k.k c.loop-k-test.false c.loop-k.invariant
