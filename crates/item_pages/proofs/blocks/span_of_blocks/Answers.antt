use Rattle.std.proofs.Common.{◌+◌, take, drop, arith}
use Rattle.item_pages.specs.Packing.{items_of}
use Rattle.item_pages.proofs.Blockwise.{around_block}
use Rattle.item_pages.proofs.Holding.{sum_split}
use Rattle.item_pages.proofs.blocks.span_of_blocks.Goals as goal

pub overflow_add-span : goal.overflow_add-span
overflow_add-span g c =
    let blocks = c.args.blocks.now in
    let i = c.loop-block.block-index in
    let block = c.block-item.result in
    let is = around_block blocks i block c.loop-block-test.true c.block-item.is in
    omega (arith, c.loop-block.invariant, c.span-span.ensures, c.requires, sum_split g.T.Spanned.places (items_of (items_of blocks)) (items_of (items_of (take i blocks))) (items_of block) (items_of (items_of (drop (i + 1) blocks))) is)
