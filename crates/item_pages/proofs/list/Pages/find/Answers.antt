use Rattle.std.proofs.Common.{length, ap, arith}
use Rattle.item_pages.proofs.Packs.{packed_few}
use Rattle.item_pages.proofs.list.Pages.find.Goals as goal

pub returns-clause-most : goal.returns-clause-most
returns-clause-most g c =
    rw (← c.self.view_is) (omega (arith, packed_few c.self.inside.pages c.self.invariant.packed, ap length c.blocks-blocks.ensures, c.find_in_blocks.ensures.most, c.tick.ensures))
