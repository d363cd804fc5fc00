use Rattle.std.proofs.Common.{arith, ap, length, sum_by}
use Rattle.item_pages.proofs.Setting.{set_spans, set_list, set_items, spot_inside}
use Rattle.item_pages.proofs.list.Pages.put.Goals as goal

pub with-requires-clause-span : goal.with-requires-clause-span
with-requires-clause-span g c =
    let at = rw c.blocks-blocks.ensures at c.spot_of-spot.ensures.spot in
    let held = (rw c.blocks-blocks.ensures at c.page_of-held.ensures) c.page_of-held.result.now in
    let low = rw (← c.self.view_is) at c.requires.within in
    let fits = rw (← c.self.view_is) at c.requires.fits in
    omega (arith, fits.1, (set_spans g.T.Spanned.places c.self.inside.pages c.args.index c.spot_of-spot.result c.page_of-held.result.now c.args.item at held low).2)

pub overflow_sub-total : goal.overflow_sub-total
overflow_sub-total g c =
    let at = rw c.blocks-blocks.ensures at c.spot_of-spot.ensures.spot in
    let held = (rw c.blocks-blocks.ensures at c.page_of-held.ensures) c.page_of-held.result.now in
    let low = rw (← c.self.view_is) at c.requires.within in
    omega (arith, c.span-span.ensures.span, c.self.invariant.total_is, (set_spans g.T.Spanned.places c.self.inside.pages c.args.index c.spot_of-spot.result c.page_of-held.result.now c.args.item at held low).1)

pub overflow_add-total : goal.overflow_add-total
overflow_add-total g c =
    let at = rw c.blocks-blocks.ensures at c.spot_of-spot.ensures.spot in
    let held = (rw c.blocks-blocks.ensures at c.page_of-held.ensures) c.page_of-held.result.now in
    let low = rw (← c.self.view_is) at c.requires.within in
    let fits = rw (← c.self.view_is) at c.requires.fits in
    let spans = set_spans g.T.Spanned.places c.self.inside.pages c.args.index c.spot_of-spot.result c.page_of-held.result.now c.args.item at held low in
    omega (arith, fits.1, spans.0, spans.1, c.span-span.ensures.span, c.span.ensures.span, ap (sum_by g.T.Spanned.places) c.in_ok-page.ensures, c.self.invariant.total_is)

pub invariant_of-self-2 : goal.invariant_of-self-2
invariant_of-self-2 g c =
    let at = rw c.blocks-blocks.ensures at c.spot_of-spot.ensures.spot in
    let held = (rw c.blocks-blocks.ensures at c.page_of-held.ensures) c.page_of-held.result.now in
    let low = rw (← c.self.view_is) at c.requires.within in
    let fits = rw (← c.self.view_is) at c.requires.fits in
    rw (c.in_ok-set.ensures.ok, c.span-span.ensures.span, c.span.ensures.span)
    (set_list g.T.Spanned.places c.self.inside.pages c.args.index c.spot_of-spot.result c.page_of-held.result.now c.in_ok-page.page c.args.item c.self.inside.count c.self.inside.total
    at held c.in_ok-page.ensures low fits c.self.invariant)

pub returns-clause-ok : goal.returns-clause-ok
returns-clause-ok g c =
    let at = rw c.blocks-blocks.ensures at c.spot_of-spot.ensures.spot in
    let held = (rw c.blocks-blocks.ensures at c.page_of-held.ensures) c.page_of-held.result.now in
    let low = rw (← c.self.view_is) at c.requires.within in
    rw (← c.self.view_is, c.in_ok-set.ensures.ok) (set_items c.self.inside.pages c.args.index c.spot_of-spot.result c.page_of-held.result.now c.in_ok-page.page c.args.item at held c.in_ok-page.ensures low)

pub page_of-held-requires : goal.page_of-held-requires
page_of-held-requires g c =
    let at = rw c.blocks-blocks.ensures at c.spot_of-spot.ensures.spot in
    let low = rw (← c.self.view_is) at c.requires.within in
    rw c.blocks-blocks.ensures (spot_inside c.self.inside.pages c.args.index c.spot_of-spot.result at low)

pub set-requires-clause-fits : goal.set-requires-clause-fits
set-requires-clause-fits g c =
    let at = rw c.blocks-blocks.ensures at c.spot_of-spot.ensures.spot in
    let held = (rw c.blocks-blocks.ensures at c.page_of-held.ensures) c.page_of-held.result.now in
    let low = rw (← c.self.view_is) at c.requires.within in
    let fits = rw (← c.self.view_is) at c.requires.fits in
    rw (set_items c.self.inside.pages c.args.index c.spot_of-spot.result c.page_of-held.result.now c.in_ok-page.page c.args.item at held c.in_ok-page.ensures low) fits

pub with-requires-clause-within : goal.with-requires-clause-within
with-requires-clause-within g c =
    let at = rw c.blocks-blocks.ensures at c.spot_of-spot.ensures.spot in
    let held = (rw c.blocks-blocks.ensures at c.page_of-held.ensures) c.page_of-held.result.now in
    let low = rw (← c.self.view_is) at c.requires.within in
    omega (arith, ap length held, at.within c.page_of-held.result.now (spot_inside c.self.inside.pages c.args.index c.spot_of-spot.result at low))
