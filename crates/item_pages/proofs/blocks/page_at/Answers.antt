use Rattle.std.proofs.Common.{◌<◌, length, arith}
use Rattle.item_pages.proofs.Blockwise.{page_is, page_low}
use Rattle.item_pages.proofs.blocks.page_at.Goals as goal

pub returns-clause-some : goal.returns-clause-some
returns-clause-some g c =
    let blocks = c.args.blocks.now in
    let spot = c.place_of-spot.result in
    let low : spot.part < length blocks = omega (arith, c.place_of-spot.ensures.part, c.if-spot-blocks.false) in
    page_low blocks c.args.index spot c.index-blocks-spot.result c.place_of-spot.ensures low c.index-blocks-spot.is

pub returns-clause-page : goal.returns-clause-page
returns-clause-page g c =
    let blocks = c.args.blocks.now in
    let spot = c.place_of-spot.result in
    let low : spot.part < length blocks = omega (arith, c.place_of-spot.ensures.part, c.if-spot-blocks.false) in
    let here = rw c.pages.ensures.pages at c.index-pages-spot.is in
    page_is blocks c.args.index spot c.index-blocks-spot.result c.index-pages-spot.result c.place_of-spot.ensures low c.index-blocks-spot.is here
