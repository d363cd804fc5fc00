use Rattle.item_pages.proofs.Blockwise.{set_block_fits}
use Rattle.item_pages.proofs.Setting.{set_items}
use Rattle.item_pages.proofs.blocks.set_page.Goals as goal

pub set-requires-clause-fits : goal.set-requires-clause-fits
set-requires-clause-fits g c =
    let at = rw c.deref.ensures.value at c.place_of-spot.ensures in
    set_block_fits g.T.Spanned.places c.args.blocks.now.items c.args.index c.place_of-spot.result c.index_mut.result.now c.args.page at c.index_mut.ensures.value c.requires.within c.requires.fits

pub returns-clause-ok : goal.returns-clause-ok
returns-clause-ok g c =
    let at = rw c.deref.ensures.value at c.place_of-spot.ensures in
    set_items c.args.blocks.now.items c.args.index c.place_of-spot.result c.index_mut.result.now c.set.new.self c.args.page at c.index_mut.ensures.value c.in_ok-set.ensures.ok c.requires.within
