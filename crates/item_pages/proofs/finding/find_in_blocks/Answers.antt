use Rattle.std.proofs.Common.{◌+◌, ◌<◌, sum_by, take, drop, arith}
use Rattle.item_pages.specs.Packing.{items_of}
use Rattle.item_pages.proofs.Blockwise.{around_block, part_fits}
use Rattle.item_pages.proofs.Packs.{around_page}
use Rattle.item_pages.proofs.Holding.{holds_on, length_split, sum_split}
use Rattle.item_pages.proofs.finding.find_in_blocks.Goals as goal

pub overflow_add-to : goal.overflow_add-to
overflow_add-to g c =
    let blocks = c.args.blocks.now in
    let i = c.loop-block.block-index in
    let block = c.block-item.result in
    let is = around_block blocks i block c.loop-block-test.true c.block-item.is in
    omega (arith, c.loop-block.invariant.from, c.span.ensures, c.requires.1, sum_split g.T.Spanned.places (items_of (items_of blocks)) (items_of (items_of (take i blocks))) (items_of block) (items_of (items_of (drop (i + 1) blocks))) is)

pub overflow_add-result : goal.overflow_add-result
overflow_add-result g c =
    let blocks = c.args.blocks.now in
    let i = c.loop-block.block-index in
    let block = c.block-item.result in
    let is = around_block blocks i block c.loop-block-test.true c.block-item.is in
    omega (arith, c.loop-block.invariant.index, c.find_in_block-inner.ensures.found.index, c.requires.0, length_split (items_of (items_of blocks)) (items_of (items_of (take i blocks))) (items_of block) (items_of (items_of (drop (i + 1) blocks))) is)

pub overflow_add-index : goal.overflow_add-index
overflow_add-index g c =
    let blocks = c.args.blocks.now in
    let i = c.loop-block.block-index in
    let block = c.block-item.result in
    let is = around_block blocks i block c.loop-block-test.true c.block-item.is in
    omega (arith, c.loop-block.invariant.index, c.count-index.ensures.count, c.requires.0, length_split (items_of (items_of blocks)) (items_of (items_of (take i blocks))) (items_of block) (items_of (items_of (drop (i + 1) blocks))) is)

pub returns-then-at-to-clause-found : goal.returns-then-at-to-clause-found
returns-then-at-to-clause-found g c =
    let blocks = c.args.blocks.now in
    let i = c.loop-block.block-index in
    let block = c.block-item.result in
    let is = around_block blocks i block c.loop-block-test.true c.block-item.is in
    holds_on g.T.Spanned.places (items_of (items_of blocks)) (items_of (items_of (take i blocks))) (items_of block) (items_of (items_of (drop (i + 1) blocks))) c.args.at c.loop-block.index c.loop-block.from c.find_in_block-inner.result
    is c.loop-block.invariant.index c.loop-block.invariant.from c.loop-block.invariant.passed c.find_in_block-inner.ensures.found

pub returns-then-at-to-clause-none : goal.returns-then-at-to-clause-none
returns-then-at-to-clause-none g c =
    let blocks = c.args.blocks.now in
    let i = c.loop-block.block-index in
    let block = c.block-item.result in
    let is = around_block blocks i block c.loop-block-test.true c.block-item.is in
    let below : c.args.at < sum_by g.T.Spanned.places (items_of (items_of blocks)) =
    omega (arith, c.loop-block.invariant.from, c.span.ensures, c.if-at-to.true, sum_split g.T.Spanned.places (items_of (items_of blocks)) (items_of (items_of (take i blocks))) (items_of block) (items_of (items_of (drop (i + 1) blocks))) is) in
    (λ none. cc, λ past. absurd (omega (arith, past, below)))

pub returns-then-at-to-clause-few : goal.returns-then-at-to-clause-few
returns-then-at-to-clause-few g c =
    let blocks = c.args.blocks.now in
    let i = c.loop-block.block-index in
    let block = c.block-item.result in
    let is = around_block blocks i block c.loop-block-test.true c.block-item.is in
    omega (
      arith,
      c.loop-block.invariant.index,
      c.loop-block.invariant.low,
      c.loop-block.invariant.most,
      c.find_in_block-inner.ensures.few,
      c.find_in_block-inner.ensures.found.index,
      length_split (items_of (items_of blocks)) (items_of (items_of (take i blocks))) (items_of block) (items_of (items_of (drop (i + 1) blocks))) is,
    )

pub returns-then-at-to-clause-most : goal.returns-then-at-to-clause-most
returns-then-at-to-clause-most g c =
    let blocks = c.args.blocks.now in
    let i = c.loop-block.block-index in
    let block = c.block-item.result in
    omega (
      arith,
      c.loop-block.invariant.pages,
      c.loop-block.invariant.most,
      c.find_in_block-inner.ensures.most,
      length_split (items_of blocks) (items_of (take i blocks)) block (items_of (drop (i + 1) blocks)) (around_page blocks i block c.loop-block-test.true c.block-item.is),
    )

pub find_in_block-inner-requires-clause-fits : goal.find_in_block-inner-requires-clause-fits
find_in_block-inner-requires-clause-fits g c =
    let blocks = c.args.blocks.now in
    let i = c.loop-block.block-index in
    let block = c.block-item.result in
    part_fits g.T.Spanned.places (items_of (items_of blocks)) (items_of (items_of (take i blocks))) (items_of block) (items_of (items_of (drop (i + 1) blocks)))
    (around_block blocks i block c.loop-block-test.true c.block-item.is) c.requires
