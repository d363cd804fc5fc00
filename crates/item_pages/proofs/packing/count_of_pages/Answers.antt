use Rattle.std.proofs.Common.{◌+◌, take, drop, arith}
use Rattle.item_pages.specs.Packing.{items_of}
use Rattle.item_pages.proofs.Packs.{around_page}
use Rattle.item_pages.proofs.Holding.{length_split}
use Rattle.item_pages.proofs.packing.count_of_pages.Goals as goal

pub overflow_add-count : goal.overflow_add-count
overflow_add-count g c =
    let pages = c.args.pages.now in
    let i = c.loop-page.page-index in
    let page = c.page-item.result in
    let is = around_page pages i page c.loop-page-test.true c.page-item.is in
    omega (arith, c.loop-page.invariant.count, c.count-count.ensures.count, c.requires, length_split (items_of pages) (items_of (take i pages)) page (items_of (drop (i + 1) pages)) is)
