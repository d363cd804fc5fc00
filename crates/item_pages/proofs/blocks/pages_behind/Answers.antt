use Rattle.std.proofs.Common.{◌<◌, List, ◌++◌, length, drop, ap, sym, ◌∙◌, get_or, arith}
use Rattle.item_pages.specs.Packing.{items_of}
use Rattle.item_pages.proofs.Packs.{drop_spot}
use Rattle.item_pages.proofs.blocks.pages_behind.Goals as goal

pub returns-clause-pages : goal.returns-clause-pages
returns-clause-pages g c =
    let blocks = c.args.blocks.now in
    let spot = c.place_of-spot.result in
    let at = c.place_of-spot.ensures in
    let block = c.index-blocks-spot.result in
    let inside : spot.part < length blocks = omega (arith, at.part, c.if-spot-blocks.false) in
    let parts = drop_spot blocks spot.part spot.within block inside (omega (arith, at.within block inside)) in
    let pages = c.split_at-2.ensures.back ∙ ap (drop spot.within) (c.pages.ensures.pages ∙ c.index-blocks-spot.is) in
    ap (λ n. drop n (items_of blocks)) at.place
    ∙ (parts ∙ sym (ap (λ (xs : List (List g.row.T.Denot)). xs ++ items_of c.split_at-3.result.1.now) pages
    ∙ ap (λ (bs : List (List (List g.row.T.Denot))). drop spot.within (get_or blocks spot.part block) ++ items_of bs) c.split_at-3.ensures.back))
