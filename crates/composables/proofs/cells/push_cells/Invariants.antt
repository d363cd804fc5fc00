use Rattle.std.proofs.Common.{◌≡◌, ◌++◌}
use Rattle.composables.specs.Items.{view_cells}
use Rattle.composables.proofs.Spans.{cells_from}
use Rattle.composables.proofs.cells.push_cells.Given as goal

abbrev pub invariant-loop-k : goal.invariant-loop-k
invariant-loop-k l = l.into.items ++ cells_from l.view l.k ≡ l.fn.into.items ++ view_cells l.view
