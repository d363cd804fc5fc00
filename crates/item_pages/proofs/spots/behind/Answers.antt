use Rattle.std.proofs.Common.{◌+◌, List, ◌++◌, length, drop, take, ap, sym, ◌∙◌, get_or, arith}
use Rattle.std.proofs.lemmas.List.{length-append, length-drop}
use Rattle.item_pages.specs.Packing.{items_of}
use Rattle.item_pages.proofs.Packs.{around_page, drop_spot, items_more}
use Rattle.item_pages.proofs.Holding.{length_split}
use Rattle.item_pages.proofs.spots.behind.Goals as goal

pub split_at-requires : goal.split_at-requires
split_at-requires g c =
    let page = c.in-Some.page.now in
    omega (arith, c.spot_of-spot.ensures.spot.within page c.in-Some.ensures.some, ap length (c.in-Some.ensures.page page), ap length c.items.ensures.items)

pub returns-in-Some-clause-items : goal.returns-in-Some-clause-items
returns-in-Some-clause-items g c =
    let pages = items_of c.args.blocks.now in
    let spot = c.spot_of-spot.result in
    let at = c.spot_of-spot.ensures.spot in
    let page = c.in-Some.page.now in
    let inside = c.in-Some.ensures.some in
    let parts = drop_spot pages spot.part spot.within page inside (omega (arith, at.within page inside)) in
    let items = c.split_at.ensures.back ∙ ap (drop spot.within) (c.items.ensures.items ∙ c.in-Some.ensures.page page) in
    ap (λ n. drop n (items_of pages)) at.place
    ∙ (parts ∙ sym (ap (λ (xs : List g.row.T.Denot). xs ++ items_of (drop (spot.part + 1) pages)) items))

pub returns-in-Some-clause-filled : goal.returns-in-Some-clause-filled
returns-in-Some-clause-filled g c = λ _.
    let page = c.in-Some.page.now in
    let spot = c.spot_of-spot.result in
    omega (arith, c.spot_of-spot.ensures.spot.within page c.in-Some.ensures.some, ap length (c.in-Some.ensures.page page), ap length c.items.ensures.items, ap length c.split_at.ensures.back, length-drop spot.within c.items.result.now)

pub returns-in-Some-clause-past : goal.returns-in-Some-clause-past
returns-in-Some-clause-past g c = λ _.
    let pages = items_of c.args.blocks.now in
    let spot = c.spot_of-spot.result in
    let at = c.spot_of-spot.ensures.spot in
    let page = c.in-Some.page.now in
    let inside = c.in-Some.ensures.some in
    omega (arith, at.place, at.within page inside, ap length (items_more pages spot.part page inside), length-append (items_of (take spot.part pages)) (get_or pages spot.part page))

pub returns-in-Some-clause-all : goal.returns-in-Some-clause-all
returns-in-Some-clause-all g c = λ past.
    let pages = items_of c.args.blocks.now in
    let spot = c.spot_of-spot.result in
    let at = c.spot_of-spot.ensures.spot in
    let page = c.in-Some.page.now in
    let inside = c.in-Some.ensures.some in
    let is = around_page pages spot.part page inside (c.in-Some.ensures.page page) in
    absurd (omega (arith, past, at.place, at.within page inside, ap length (c.in-Some.ensures.page page), length_split (items_of pages) (items_of (take spot.part pages)) page (items_of (drop (spot.part + 1) pages)) is))
