use Rattle.std.proofs.Common.{take, drop, ap, ◌∙◌, arith}
use Rattle.item_pages.specs.Packing.{items_of}
use Rattle.item_pages.proofs.Placing.{put_fits, put_items, put_list, replaced_count}
use Rattle.item_pages.proofs.list.Pages.replace.Goals as goal

pub put_between-requires-clause-fits : goal.put_between-requires-clause-fits
put_between-requires-clause-fits g c =
    let parts = c.around-parts.result in
    let pages = c.self.inside.pages in
    let s = rw c.blocks-blocks.ensures at c.around-parts.ensures.around in
    let is = rw (c.deref-2.ensures.value, c.in_ok-middle.ensures, c.deref.ensures.value) at c.in_ok-fresh.ensures.items in
    let fits = rw (← c.self.view_is) at c.requires.fits in
    rw c.deref-3.ensures.value
    (put_fits g.T.Spanned.places pages c.args.from c.args.to (take parts.start pages) parts.near.now parts.front.now parts.back.now parts.next.now (drop parts.end pages) c.in_ok-fresh.fresh.items c.args.items.items s is fits)

pub put_between-requires-clause-within : goal.put_between-requires-clause-within
put_between-requires-clause-within g c = rw c.blocks-blocks.ensures at c.around-parts.ensures.within

pub overflow_add-self : goal.overflow_add-self
overflow_add-self g c =
    let fits = rw (← c.self.view_is) at c.requires.fits in
    let within = rw (← c.self.view_is) at c.requires.within in
    omega (arith, fits.0, c.self.invariant.count_is, c.len.ensures, c.args.items.ok.0, replaced_count (items_of c.self.inside.pages) c.args.from c.args.to c.args.items.items c.requires.order within)

pub span_of_blocks-total-requires : goal.span_of_blocks-total-requires
span_of_blocks-total-requires g c =
    let parts = c.around-parts.result in
    let pages = c.self.inside.pages in
    let s = rw c.blocks-blocks.ensures at c.around-parts.ensures.around in
    let is = rw (c.deref-2.ensures.value, c.in_ok-middle.ensures, c.deref.ensures.value) at c.in_ok-fresh.ensures.items in
    let fits = rw (← c.self.view_is) at c.requires.fits in
    let new = rw c.deref-3.ensures.value at c.in_ok-put_between.ensures.ok in
    rw (c.blocks-changed.ensures, new)
    (put_fits g.T.Spanned.places pages c.args.from c.args.to (take parts.start pages) parts.near.now parts.front.now parts.back.now parts.next.now (drop parts.end pages) c.in_ok-fresh.fresh.items c.args.items.items s is fits).1

pub invariant_of-self-2 : goal.invariant_of-self-2
invariant_of-self-2 g c =
    let parts = c.around-parts.result in
    let pages = c.self.inside.pages in
    let s = rw c.blocks-blocks.ensures at c.around-parts.ensures.around in
    let is = rw (c.deref-2.ensures.value, c.in_ok-middle.ensures, c.deref.ensures.value) at c.in_ok-fresh.ensures.items in
    let fits = rw (← c.self.view_is) at c.requires.fits in
    let within = rw (← c.self.view_is) at c.requires.within in
    let new = rw c.deref-3.ensures.value at c.in_ok-put_between.ensures.ok in
    let places = rw c.blocks-changed.ensures at c.span_of_blocks-total.ensures in
    put_list g.T.Spanned.places pages c.put_between.new.self c.args.from c.args.to (take parts.start pages) parts.near.now parts.front.now parts.back.now parts.next.now (drop parts.end pages) c.in_ok-fresh.fresh.items c.args.items.items
    c.self.inside.count c.self.inside.total c.len.result c.span_of_blocks-total.result c.requires.order within s is c.in_ok-fresh.ensures.packed c.in_ok-fresh.ensures.begins c.in_ok-fresh.ensures.ends
    new (omega (arith, c.len.ensures, c.args.items.ok.0)) places fits c.self.invariant

pub returns-clause-ok : goal.returns-clause-ok
returns-clause-ok g c =
    let parts = c.around-parts.result in
    let pages = c.self.inside.pages in
    let s = rw c.blocks-blocks.ensures at c.around-parts.ensures.around in
    let is = rw (c.deref-2.ensures.value, c.in_ok-middle.ensures, c.deref.ensures.value) at c.in_ok-fresh.ensures.items in
    let new = rw c.deref-3.ensures.value at c.in_ok-put_between.ensures.ok in
    rw (← c.self.view_is)
    (ap items_of new ∙ put_items pages c.args.from c.args.to (take parts.start pages) parts.near.now parts.front.now parts.back.now parts.next.now (drop parts.end pages) c.in_ok-fresh.fresh.items c.args.items.items s is)
