use Rattle.composables.proofs.Spans.{numbered-later}
use Rattle.composables.proofs.items.ItemView.later.Goals as goal

pub later-requires : goal.later-requires
later-requires c = numbered-later c.args.self.now.first c.args.self.now.len c.args.by c.requires.within c.requires.source
