use Rattle.std.proofs.Common.{sym}
use Rattle.composables.proofs.PassedLinks.{within_same}
use Rattle.composables.proofs.items.known_bits.Goals as goal

pub returns : goal.returns
returns c = within_same _ _ (sym c.link_bits.ensures)
