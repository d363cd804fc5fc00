use Rattle.std.proofs.Common.{◌+◌, take, drop, arith}
use Rattle.item_pages.specs.Packing.{items_of}
use Rattle.item_pages.proofs.Packs.{around_page}
use Rattle.item_pages.proofs.Holding.{sum_split}
use Rattle.item_pages.proofs.packing.span_of_pages.Goals as goal

pub overflow_add-span : goal.overflow_add-span
overflow_add-span g c =
    let pages = c.args.pages.now in
    let i = c.loop-page.page-index in
    let page = c.page-item.result in
    let is = around_page pages i page c.loop-page-test.true c.page-item.is in
    omega (arith, c.loop-page.invariant, c.span-span.ensures.span, c.requires, sum_split g.T.Spanned.places (items_of pages) (items_of (take i pages)) page (items_of (drop (i + 1) pages)) is)
