use Rattle.std.proofs.Common.{◌++◌}
use Rattle.item_pages.specs.Packing.{items_of}
use Rattle.item_pages.proofs.Fronts.{fits_passed}
use Rattle.item_pages.proofs.reading.Reader.pass.Goals as goal

pub of-requires : goal.of-requires
of-requires g c =
    fits_passed g.T.Spanned.places g.T.Spanned.numbered g.T.Spanned.set c.args.wanted c.self.inside.piece.now (items_of (c.self.inside.behind.now ++ items_of c.self.inside.blocks.now)) (items_of (c.pass.result.1.now ++ items_of c.pass.result.2.now)) c.pass.result.0
    c.self.invariant c.pass.ensures
