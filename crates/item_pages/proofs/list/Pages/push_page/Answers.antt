use Rattle.std.proofs.Common.{arith}
use Rattle.std.proofs.lemmas.List.{length-append}
use Rattle.std.proofs.lemmas.List.Sums.{sum_by-append}
use Rattle.item_pages.specs.Packing.{items_of}
use Rattle.item_pages.proofs.Filling.{list_more}
use Rattle.item_pages.proofs.list.Pages.push_page.Goals as goal

pub push-requires-clause-fits : goal.push-requires-clause-fits
push-requires-clause-fits g c = rw (← c.self.view_is) at c.requires

pub overflow_add-self : goal.overflow_add-self
overflow_add-self g c =
    let fits = rw (← c.self.view_is) at c.requires in
    omega (arith, fits.0, length-append (items_of c.self.inside.pages) c.args.page, c.self.invariant.count_is, c.count-count.ensures.count)

pub overflow_add-self-2 : goal.overflow_add-self-2
overflow_add-self-2 g c =
    let fits = rw (← c.self.view_is) at c.requires in
    omega (arith, fits.1, sum_by-append g.T.Spanned.places (items_of c.self.inside.pages) c.args.page, c.self.invariant.total_is, c.span-span.ensures.span)

pub invariant_of-self-2 : goal.invariant_of-self-2
invariant_of-self-2 g c =
    let fits = rw (← c.self.view_is) at c.requires in
    list_more g.T.Spanned.places c.self.inside.pages c.push.new.self c.args.page c.self.inside.count c.self.inside.total c.count-count.result c.span-span.result
    c.in_ok-push.ensures.items c.in_ok-push.ensures.packed fits c.count-count.ensures.count c.span-span.ensures.span c.self.invariant
