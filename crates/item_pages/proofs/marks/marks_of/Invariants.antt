use Rattle.std.proofs.Common.{take}
use Rattle.item_pages.specs.Summary.{HoldsEach}
use Rattle.item_pages.proofs.marks.marks_of.Given as goal

abbrev pub invariant-loop-item : goal.invariant-loop-item
invariant-loop-item g l = HoldsEach g.T.Spanned.numbered g.T.Spanned.set l.marks (take l.item-index l.items)
