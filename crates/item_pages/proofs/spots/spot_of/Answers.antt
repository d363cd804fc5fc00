use Rattle.item_pages.proofs.Blockwise.{spot_on}
use Rattle.item_pages.proofs.spots.spot_of.Goals as goal

pub returns-then-left-items-clause-spot : goal.returns-then-left-items-clause-spot
returns-then-left-items-clause-spot g c =
    let at = rw c.pages.ensures.pages at c.spot_in-spot.ensures.spot in
    let low = rw c.count-items.ensures.count at c.if-left-items.true in
    spot_on c.args.blocks.now c.loop-block.block-index c.loop-block.left c.loop-block.passed c.args.index c.block-item.result c.spot_in-spot.result
    c.loop-block-test.true c.block-item.is c.loop-block.invariant.passed c.loop-block.invariant.place low at
