use Rattle.std.proofs.Common.{sym, ap, subst}
use Rattle.composables.specs.declared.media.Table.{Table}
use Rattle.otio_tracks.specs.ReelTexts.{AreTexts}
use Rattle.list_import.proofs.naming.shots_of.Goals as goal

pub returns-clause-texts : goal.returns-clause-texts
returns-clause-texts c = subst AreTexts (sym (ap (λ (t : Table). t.reels) c.in_ok-table.ensures)) c.in_ok-entered.ensures.texts
