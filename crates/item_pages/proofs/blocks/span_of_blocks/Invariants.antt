use Rattle.std.proofs.Common.{◌≡◌, take, sum_by}
use Rattle.item_pages.specs.Packing.{items_of}
use Rattle.item_pages.proofs.blocks.span_of_blocks.Given as goal

abbrev pub invariant-loop-block : goal.invariant-loop-block
invariant-loop-block g l = l.span ≡ sum_by g.T.Spanned.places (items_of (items_of (take l.block-index l.blocks)))
