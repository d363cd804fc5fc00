use Rattle.std.proofs.Common.{List, ◌++◌, length, take, ap, sym, ◌∙◌, arith}
use Rattle.item_pages.specs.Packing.{items_of}
use Rattle.item_pages.proofs.Packs.{take_spot}
use Rattle.item_pages.proofs.spots.before.Goals as goal

pub split_at-requires : goal.split_at-requires
split_at-requires g c =
    let page = c.in-Some.page.now in
    omega (arith, c.spot_of-spot.ensures.spot.within page c.in-Some.ensures.some, ap length (c.in-Some.ensures.page page), ap length c.items.ensures.items)

pub returns-in-Some-clause-items : goal.returns-in-Some-clause-items
returns-in-Some-clause-items g c =
    let pages = items_of c.args.blocks.now in
    let spot = c.spot_of-spot.result in
    let at = c.spot_of-spot.ensures.spot in
    let page = c.in-Some.page.now in
    let inside = c.in-Some.ensures.some in
    let parts = take_spot pages spot.part spot.within page inside (omega (arith, at.within page inside)) in
    let items = c.split_at.ensures.front ∙ ap (take spot.within) (c.items.ensures.items ∙ c.in-Some.ensures.page page) in
    ap (λ n. take n (items_of pages)) at.place
    ∙ (parts ∙ sym (ap (λ (xs : List g.row.T.Denot). items_of (take spot.part pages) ++ xs) items))
