use Rattle.std.proofs.Common.{◌++◌}
use Rattle.item_pages.specs.declared.spans.Wanted.TheVariants.{Numbered}
use Rattle.item_pages.specs.Packing.{items_of}
use Rattle.item_pages.proofs.Fronts.{fits_passed}
use Rattle.item_pages.proofs.reading.Reader.pass_without.Goals as goal

pub of-requires : goal.of-requires
of-requires g c =
    fits_passed g.T.Spanned.places g.T.Spanned.keyed g.T.Spanned.set (Numbered c.args.key) c.self.inside.piece.now (items_of (c.self.inside.behind.now ++ items_of c.self.inside.blocks.now)) (items_of (c.pass_keyless.result.1.now ++ items_of c.pass_keyless.result.2.now)) c.pass_keyless.result.0
    c.self.invariant c.pass_keyless.ensures
