use Rattle.std.proofs.Common.{◌≡◌, take, sum_by}
use Rattle.item_pages.proofs.page.span_of.Given as goal

abbrev pub invariant-loop-item : goal.invariant-loop-item
invariant-loop-item g l = l.span ≡ sum_by g.T.Spanned.places (take l.item-index l.items)
