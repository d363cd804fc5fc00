use Rattle.composables.proofs.Spans.{numbered-later}
use Rattle.composables.proofs.cells.cell_of.Goals as goal

pub later-requires : goal.later-requires
later-requires c = numbered-later c.args.view.now.first c.args.view.now.len c.args.k c.requires.within c.requires.source
