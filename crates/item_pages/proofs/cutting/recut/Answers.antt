use Rattle.std.proofs.Common.{◌≤◌, ◌++◌, length, take, drop, ap, arith}
use Rattle.std.proofs.lemmas.List.{length-append, length-drop, length-take}
use Rattle.item_pages.specs.Packing.{items_of}
use Rattle.item_pages.proofs.Placing.{behind_is}
use Rattle.item_pages.proofs.Recut.{first_of, last_of, recut_blocks, recut_fits, recut_pages, row_of, tail_is}
use Rattle.item_pages.proofs.cutting.recut.Goals as goal

pub overflow_add-end : goal.overflow_add-end
overflow_add-end g c =
    let pages = items_of c.args.blocks.now in
    omega (
      arith,
      c.requires.order,
      c.requires.within,
      c.ranges.end.fits,
      ap length c.pages_before.ensures.pages,
      length-take c.args.start pages,
      length-append (items_of c.pages_before.result.0.now) c.pages_before.result.1.now,
    )

pub blocks_of-requires : goal.blocks_of-requires
blocks_of-requires g c =
    let blocks = c.args.blocks.now in
    let whole = c.pages_before.result.0.now in
    let front = c.pages_before.result.1.now in
    let tail = c.split_at.result.1.now in
    let back = c.pages_behind.result.0.now in
    let rest = c.pages_behind.result.1.now in
    let some = c.neighbour_before.result.0.now in
    let before = c.neighbour_before.result.1.now in
    let behind = c.neighbour_behind.result.0.now in
    let left = c.neighbour_behind.result.1.now in
    let fresh = c.args.fresh.now in
    let pages = c.share_pages-5.new.all.items in
    let row = row_of c.in_ok-pages.pages.items c.share_pages.new.all.items c.share_pages-2.new.all.items c.share_pages-3.new.all.items c.share_pages-4.new.all.items pages before front fresh back behind
    c.in_ok-pages.ensures.items c.in_ok-share_pages.ensures c.in_ok-share_pages-2.ensures c.in_ok-share_pages-3.ensures c.in_ok-share_pages-4.ensures c.in_ok-share_pages-5.ensures in
    let last = behind_is blocks c.args.start c.args.end whole tail rest front back c.requires.order c.requires.within c.pages_before.ensures.pages c.pages_before.ensures.whole c.split_at.ensures.back c.pages_behind.ensures.pages in
    let laid = recut_pages blocks c.args.start c.args.end whole some rest left before front fresh back behind pages c.pages_before.ensures.pages last c.neighbour_before.ensures.pages c.neighbour_behind.ensures.pages row in
    recut_fits g.T.Spanned.places (items_of some) pages (items_of left) (take c.args.start (items_of blocks) ++ (fresh ++ drop c.args.end (items_of blocks))) laid c.requires.fits

pub returns-clause-pages : goal.returns-clause-pages
returns-clause-pages g c =
    let blocks = c.args.blocks.now in
    let whole = c.pages_before.result.0.now in
    let front = c.pages_before.result.1.now in
    let tail = c.split_at.result.1.now in
    let back = c.pages_behind.result.0.now in
    let rest = c.pages_behind.result.1.now in
    let some = c.neighbour_before.result.0.now in
    let before = c.neighbour_before.result.1.now in
    let behind = c.neighbour_behind.result.0.now in
    let left = c.neighbour_behind.result.1.now in
    let fresh = c.args.fresh.now in
    let pages = c.share_pages-5.new.all.items in
    let row = row_of c.in_ok-pages.pages.items c.share_pages.new.all.items c.share_pages-2.new.all.items c.share_pages-3.new.all.items c.share_pages-4.new.all.items pages before front fresh back behind
    c.in_ok-pages.ensures.items c.in_ok-share_pages.ensures c.in_ok-share_pages-2.ensures c.in_ok-share_pages-3.ensures c.in_ok-share_pages-4.ensures c.in_ok-share_pages-5.ensures in
    let last = behind_is blocks c.args.start c.args.end whole tail rest front back c.requires.order c.requires.within c.pages_before.ensures.pages c.pages_before.ensures.whole c.split_at.ensures.back c.pages_behind.ensures.pages in
    let laid = recut_pages blocks c.args.start c.args.end whole some rest left before front fresh back behind pages c.pages_before.ensures.pages last c.neighbour_before.ensures.pages c.neighbour_behind.ensures.pages row in
    let some_is = first_of blocks whole some c.pages_before.ensures.whole c.neighbour_before.ensures.whole c.neighbour_before.ensures.some in
    let short : length tail ≤ length blocks = omega (arith, ap length c.split_at.ensures.back, length-drop (length whole) blocks) in
    let rest_is = last_of blocks tail rest (tail_is blocks tail (length whole) c.pages_before.ensures.some c.split_at.ensures.back) short c.pages_behind.ensures.whole c.pages_behind.ensures.some in
    let left_is = last_of blocks rest left rest_is (omega (arith, short, c.pages_behind.ensures.some)) c.neighbour_behind.ensures.whole c.neighbour_behind.ensures.some in
    recut_blocks blocks some left c.in_ok-fresh.fresh.items pages (take c.args.start (items_of blocks) ++ (fresh ++ drop c.args.end (items_of blocks))) some_is left_is c.in_ok-fresh.ensures laid
