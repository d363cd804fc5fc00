use Rattle.item_pages.proofs.Marking.{within_ones}
use Rattle.item_pages.proofs.spans.Spanned.bits.Goals as goal

pub returns : goal.returns
returns g c = within_ones (g.Self.Spanned.set c.args.self.now)
