use Rattle.std.proofs.Common.{◌≡◌, ◌+◌, ◌++◌, length, drop, arith}
use Rattle.item_pages.specs.declared.spans.Wanted.TheVariants.{Numbered}
use Rattle.item_pages.specs.Packing.{items_of}
use Rattle.item_pages.proofs.Onward.{fits_after, fits_block, more_count, more_places, no_more, passed_block, passed_more}
use Rattle.item_pages.proofs.passing.pass_keyless.Goals as goal

pub pass_keyless_pages-requires-in-loop-index : goal.pass_keyless_pages-requires-in-loop-index
pass_keyless_pages-requires-in-loop-index g c =
    let blocks = c.args.blocks.now in
    let i = c.loop-index.index in
    let block = c.index-blocks-index.result in
    let all = items_of (c.args.pages.now ++ items_of blocks) in
    rw c.pages.ensures.pages
    (fits_block g.T.Spanned.places blocks i block c.loop-index-test.true c.index-blocks-index.is
    (fits_after g.T.Spanned.places g.T.Spanned.keyed g.T.Spanned.set (Numbered c.args.key) all (items_of (items_of (drop i blocks))) c.loop-index.passed c.loop-index.invariant c.requires))

pub overflow_add-passed : goal.overflow_add-passed
overflow_add-passed g c =
    let blocks = c.args.blocks.now in
    let i = c.loop-index.index in
    let block = c.index-blocks-index.result in
    let all = items_of (c.args.pages.now ++ items_of blocks) in
    let behind = items_of (items_of (drop i blocks)) in
    let left = c.pass_keyless_pages-in-loop-index.result.1.now in
    let passed = c.pass_keyless_pages-in-loop-index.result.0 in
    let so_far = c.loop-index.passed in
    let here = rw c.pages.ensures.pages at c.pass_keyless_pages-in-loop-index.ensures in
    let more = passed_block g.T.Spanned.places g.T.Spanned.keyed g.T.Spanned.set (Numbered c.args.key) blocks i block left passed c.loop-index-test.true c.index-blocks-index.is here in
    let rest = items_of (left ++ items_of (drop (i + 1) blocks)) in
    omega (arith, more_count g.T.Spanned.places g.T.Spanned.keyed g.T.Spanned.set (Numbered c.args.key) all behind rest so_far.count so_far.places passed.count passed.places c.loop-index.invariant more c.requires)

pub overflow_add-passed-in-loop-index : goal.overflow_add-passed-in-loop-index
overflow_add-passed-in-loop-index g c =
    let blocks = c.args.blocks.now in
    let i = c.loop-index.index in
    let block = c.index-blocks-index.result in
    let all = items_of (c.args.pages.now ++ items_of blocks) in
    let behind = items_of (items_of (drop i blocks)) in
    let left = c.pass_keyless_pages-in-loop-index.result.1.now in
    let passed = c.pass_keyless_pages-in-loop-index.result.0 in
    let so_far = c.loop-index.passed in
    let here = rw c.pages.ensures.pages at c.pass_keyless_pages-in-loop-index.ensures in
    let more = passed_block g.T.Spanned.places g.T.Spanned.keyed g.T.Spanned.set (Numbered c.args.key) blocks i block left passed c.loop-index-test.true c.index-blocks-index.is here in
    let rest = items_of (left ++ items_of (drop (i + 1) blocks)) in
    omega (arith, more_places g.T.Spanned.places g.T.Spanned.keyed g.T.Spanned.set (Numbered c.args.key) all behind rest so_far.count so_far.places passed.count passed.places c.loop-index.invariant more c.requires)

pub returns-then-not-is_empty-2 : goal.returns-then-not-is_empty-2
returns-then-not-is_empty-2 g c =
    let blocks = c.args.blocks.now in
    let i = c.loop-index.index in
    let block = c.index-blocks-index.result in
    let all = items_of (c.args.pages.now ++ items_of blocks) in
    let behind = items_of (items_of (drop i blocks)) in
    let left = c.pass_keyless_pages-in-loop-index.result.1.now in
    let passed = c.pass_keyless_pages-in-loop-index.result.0 in
    let so_far = c.loop-index.passed in
    let here = rw c.pages.ensures.pages at c.pass_keyless_pages-in-loop-index.ensures in
    let more = passed_block g.T.Spanned.places g.T.Spanned.keyed g.T.Spanned.set (Numbered c.args.key) blocks i block left passed c.loop-index-test.true c.index-blocks-index.is here in
    let rest = items_of (left ++ items_of (drop (i + 1) blocks)) in
    rw c.split_at.ensures.back (passed_more g.T.Spanned.places g.T.Spanned.keyed g.T.Spanned.set (Numbered c.args.key) all behind rest so_far.count so_far.places passed.count passed.places c.loop-index.invariant more)

pub loop-index-preserved : goal.loop-index-preserved
loop-index-preserved g c =
    let blocks = c.args.blocks.now in
    let i = c.loop-index.index in
    let block = c.index-blocks-index.result in
    let all = items_of (c.args.pages.now ++ items_of blocks) in
    let behind = items_of (items_of (drop i blocks)) in
    let left = c.pass_keyless_pages-in-loop-index.result.1.now in
    let passed = c.pass_keyless_pages-in-loop-index.result.0 in
    let so_far = c.loop-index.passed in
    let here = rw c.pages.ensures.pages at c.pass_keyless_pages-in-loop-index.ensures in
    let more = passed_block g.T.Spanned.places g.T.Spanned.keyed g.T.Spanned.set (Numbered c.args.key) blocks i block left passed c.loop-index-test.true c.index-blocks-index.is here in
    let rest = items_of (left ++ items_of (drop (i + 1) blocks)) in
    let none : length left ≡ 0 = Prim.grind (arith, c.is_empty-in-loop-index.ensures, c.if-not-is_empty-2.false) in
    rw (no_more left (items_of (drop (i + 1) blocks)) none) at (passed_more g.T.Spanned.places g.T.Spanned.keyed g.T.Spanned.set (Numbered c.args.key) all behind rest so_far.count so_far.places passed.count passed.places c.loop-index.invariant more)
