use Rattle.item_pages.proofs.Setting.{set_fits}
use Rattle.item_pages.proofs.list.Pages.set.Goals as goal

pub put-requires-clause-fits : goal.put-requires-clause-fits
put-requires-clause-fits g c =
    set_fits g.T.Spanned.places c.args.self.now c.args.index c.args.item c.requires.within c.requires.span c.total.ensures.fits
