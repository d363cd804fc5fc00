use Rattle.std.proofs.Common.{refl, arith}
use Rattle.item_pages.specs.Packing.{items_of}
use Rattle.item_pages.proofs.Blockwise.{pages_order}
use Rattle.item_pages.proofs.Placing.{surrounded}
use Rattle.item_pages.proofs.spots.around.Goals as goal

pub returns-clause-around : goal.returns-clause-around
returns-clause-around g c =
    let pages = items_of c.args.blocks.now in
    let before = c.before-whole in
    let behind = c.behind-rest in
    let order = pages_order pages c.args.from c.args.to before.result.0 behind.result.1 before.result.1.now c.requires.order c.requires.within before.ensures.items before.ensures.some behind.ensures.past behind.ensures.all in
    surrounded pages c.args.from c.args.to before.result.0 behind.result.1 c.saturating_sub-start.result _ c.page_or_none-near.result.now c.page_or_none-next.result.now before.result.1.now behind.result.0.now
    before.ensures.items before.ensures.some before.ensures.short behind.ensures.items behind.ensures.some behind.ensures.short order
    c.saturating_sub-start.ensures c.page_or_none-near.ensures c.page_or_none-next.ensures refl

pub returns-clause-order : goal.returns-clause-order
returns-clause-order g c =
    let pages = items_of c.args.blocks.now in
    let before = c.before-whole in
    let behind = c.behind-rest in
    let order = pages_order pages c.args.from c.args.to before.result.0 behind.result.1 before.result.1.now c.requires.order c.requires.within before.ensures.items before.ensures.some behind.ensures.past behind.ensures.all in
    omega (arith, order, c.saturating_sub-start.ensures)
