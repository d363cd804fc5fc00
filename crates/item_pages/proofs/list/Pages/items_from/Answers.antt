use Rattle.std.proofs.Common.{◌++◌, List, ap, ◌∙◌}
use Rattle.item_pages.specs.Packing.{items_of}
use Rattle.item_pages.proofs.Fronts.{fits_left}
use Rattle.item_pages.proofs.list.Pages.items_from.Goals as goal

pub of-requires-2 : goal.of-requires-2
of-requires-2 g c =
    let left = c.pages_behind.result.0.now ++ items_of c.pages_behind.result.1.now in
    fits_left g.T.Spanned.places c.self.inside.pages (items_of c.blocks-blocks.result.now) c.args.index (c.behind-next.result.0.now ++ items_of left) c.blocks-blocks.ensures
    (c.behind-next.ensures.items ∙ ap (λ (ps : List (List g.row.T.Denot)). c.behind-next.result.0.now ++ items_of ps) c.pages_behind.ensures.pages) c.self.invariant.fits
