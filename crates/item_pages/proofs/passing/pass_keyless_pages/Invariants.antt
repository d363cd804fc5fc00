use Rattle.item_pages.specs.declared.spans.Wanted.TheVariants.{Numbered}
use Rattle.item_pages.proofs.Fronts.{Front}
use Rattle.item_pages.proofs.passing.pass_keyless_pages.Given as goal

abbrev pub invariant-loop-index : goal.invariant-loop-index
invariant-loop-index g l = Front g.T.Spanned.places g.T.Spanned.keyed g.T.Spanned.set (Numbered l.key) l.pages l.index l.count l.places
