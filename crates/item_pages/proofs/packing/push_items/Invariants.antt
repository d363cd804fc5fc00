use Rattle.std.proofs.Common.{◌≡◌, ◌++◌, length}
use Rattle.item_pages.specs.Packing.{items_of, Packed, Begins}
use Rattle.item_pages.proofs.packing.push_items.Given as goal

-- the pages so far, and the items to come
abbrev pub invariant-loop-left : goal.invariant-loop-left
invariant-loop-left g l = record {
  same : items_of l.pages.items ++ l.left ≡ items_of l.fn.pages.items ++ l.items;
  packed : Packed l.pages.items;
  begins : Begins l.fn.pages.items l.pages.items;
}

abbrev pub decreases-loop-left : goal.decreases-loop-left
decreases-loop-left g l = length l.left
