use Rattle.item_pages.proofs.Fronts.{Front}
use Rattle.item_pages.proofs.passing.pass_pages.Given as goal

abbrev pub invariant-loop-index : goal.invariant-loop-index
invariant-loop-index g l = Front g.T.Spanned.places g.T.Spanned.numbered g.T.Spanned.set l.wanted l.pages l.index l.count l.places
