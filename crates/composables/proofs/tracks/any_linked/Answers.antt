use Rattle.std.proofs.Common.{sym, ◌∙◌}
use Rattle.composables.proofs.Frames.{no_view}
use Rattle.composables.proofs.Unlinked.{no_link, unlinked-more}
use Rattle.composables.proofs.tracks.any_linked.Goals as goal

pub loop-view-preserved : goal.loop-view-preserved
loop-view-preserved c =
    unlinked-more c.args.items.now c.loop-view.view-index no_view c.loop-view-test.true (no_link _ (sym c.is_some.ensures ∙ c.if-is_some.false)) c.loop-view.invariant
