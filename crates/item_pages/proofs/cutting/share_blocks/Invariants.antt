use Rattle.std.proofs.Common.{◌≡◌, ◌++◌, length}
use Rattle.item_pages.specs.Items.{Fits}
use Rattle.item_pages.specs.Packing.{items_of}
use Rattle.item_pages.proofs.cutting.share_blocks.Given as goal

-- the pages in blocks, and those to come
abbrev pub invariant-loop-left : goal.invariant-loop-left
invariant-loop-left g l = record {
  same : items_of l.blocks.items ++ l.left ≡ items_of l.fn.blocks.items ++ l.pages;
  fits : Fits g.T.Spanned.places (items_of l.left);
}

abbrev pub decreases-loop-left : goal.decreases-loop-left
decreases-loop-left g l = length l.left
