use Rattle.std.proofs.Common.{◌++◌, drop}
use Rattle.item_pages.specs.Packing.{items_of}
use Rattle.item_pages.specs.Wants.{PassedBy}
use Rattle.item_pages.proofs.passing.pass.Given as goal

abbrev pub invariant-loop-index : goal.invariant-loop-index
invariant-loop-index g l = PassedBy g.T.Spanned.places g.T.Spanned.numbered g.T.Spanned.set l.wanted
    (items_of (l.pages ++ items_of l.blocks)) l.passed (items_of (items_of (drop l.index l.blocks)))
