use Rattle.std.proofs.Common.{◌≡◌, ◌++◌, drop}
use Rattle.composables.specs.Items.{cells_of}
use Rattle.composables.proofs.cells.cells_in.Given as goal

abbrev pub invariant-loop-view : goal.invariant-loop-view
invariant-loop-view l = l.all.items ++ cells_of (drop l.view-index l.items) ≡ cells_of l.items
