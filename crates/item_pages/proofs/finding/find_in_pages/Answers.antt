use Rattle.std.proofs.Common.{◌+◌, ◌<◌, sum_by, take, drop, arith}
use Rattle.item_pages.specs.Packing.{items_of}
use Rattle.item_pages.proofs.Packs.{around_page}
use Rattle.item_pages.proofs.Holding.{holds_on, length_split, sum_split}
use Rattle.item_pages.proofs.finding.find_in_pages.Goals as goal

pub overflow_add-to : goal.overflow_add-to
overflow_add-to g c =
    let pages = c.args.pages.now in
    let i = c.loop-page.page-index in
    let page = c.page-item.result in
    let is = around_page pages i page c.loop-page-test.true c.page-item.is in
    omega (arith, c.loop-page.invariant.from, c.span.ensures.span, c.requires.1, sum_split g.T.Spanned.places (items_of pages) (items_of (take i pages)) page (items_of (drop (i + 1) pages)) is)

pub overflow_add-result : goal.overflow_add-result
overflow_add-result g c =
    let pages = c.args.pages.now in
    let i = c.loop-page.page-index in
    let page = c.page-item.result in
    let is = around_page pages i page c.loop-page-test.true c.page-item.is in
    omega (arith, c.loop-page.invariant.index, c.find_in_page-found.ensures.found.index, c.requires.0, length_split (items_of pages) (items_of (take i pages)) page (items_of (drop (i + 1) pages)) is)

pub overflow_add-index : goal.overflow_add-index
overflow_add-index g c =
    let pages = c.args.pages.now in
    let i = c.loop-page.page-index in
    let page = c.page-item.result in
    let is = around_page pages i page c.loop-page-test.true c.page-item.is in
    omega (arith, c.loop-page.invariant.index, c.count-index.ensures.count, c.requires.0, length_split (items_of pages) (items_of (take i pages)) page (items_of (drop (i + 1) pages)) is)

pub returns-then-at-to-clause-found : goal.returns-then-at-to-clause-found
returns-then-at-to-clause-found g c =
    let pages = c.args.pages.now in
    let i = c.loop-page.page-index in
    let page = c.page-item.result in
    let is = around_page pages i page c.loop-page-test.true c.page-item.is in
    holds_on g.T.Spanned.places (items_of pages) (items_of (take i pages)) page (items_of (drop (i + 1) pages)) c.args.at c.loop-page.index c.loop-page.from c.find_in_page-found.result
    is c.loop-page.invariant.index c.loop-page.invariant.from c.loop-page.invariant.passed c.find_in_page-found.ensures.found

pub returns-then-at-to-clause-none : goal.returns-then-at-to-clause-none
returns-then-at-to-clause-none g c =
    let pages = c.args.pages.now in
    let i = c.loop-page.page-index in
    let page = c.page-item.result in
    let is = around_page pages i page c.loop-page-test.true c.page-item.is in
    let below : c.args.at < sum_by g.T.Spanned.places (items_of pages) =
    omega (arith, c.loop-page.invariant.from, c.span.ensures.span, c.if-at-to.true, sum_split g.T.Spanned.places (items_of pages) (items_of (take i pages)) page (items_of (drop (i + 1) pages)) is) in
    (λ none. cc, λ past. absurd (omega (arith, past, below)))

pub returns-then-at-to-clause-few : goal.returns-then-at-to-clause-few
returns-then-at-to-clause-few g c =
    let pages = c.args.pages.now in
    let i = c.loop-page.page-index in
    let page = c.page-item.result in
    let is = around_page pages i page c.loop-page-test.true c.page-item.is in
    omega (
      arith,
      c.loop-page.invariant.index,
      c.loop-page.invariant.low,
      c.loop-page.invariant.most,
      c.find_in_page-found.ensures.most,
      c.find_in_page-found.ensures.found.index,
      length_split (items_of pages) (items_of (take i pages)) page (items_of (drop (i + 1) pages)) is,
    )
