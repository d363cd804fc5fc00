use Rattle.std.proofs.Common.{◌≡◌, take, sum_by}
use Rattle.item_pages.specs.Packing.{items_of}
use Rattle.item_pages.proofs.packing.span_of_pages.Given as goal

abbrev pub invariant-loop-page : goal.invariant-loop-page
invariant-loop-page g l = l.span ≡ sum_by g.T.Spanned.places (items_of (take l.page-index l.pages))
