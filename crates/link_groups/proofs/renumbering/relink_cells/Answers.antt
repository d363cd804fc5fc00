use Rattle.std.proofs.Common.{sym, subst}
use Rattle.composables.specs.TrackState.{TrackState}
use Rattle.link_groups.specs.Starts.{IsStart}
use Rattle.link_groups.proofs.Unsplit.{unsplit-track}
use Rattle.link_groups.proofs.renumbering.relink_cells.Goals as goal

pub returns-then-is_empty-clause-relinked : goal.returns-then-is_empty-clause-relinked
returns-then-is_empty-clause-relinked g c = unsplit-track c.args.splits.now c.args.place c.args.track.now c.a_track_is_kept.ensures (c.is_empty.ensures.0 c.if-is_empty.true)

pub relink_items-requires-clause-start : goal.relink_items-requires-clause-start
relink_items-requires-clause-start g c = subst (λ (t : TrackState). IsStart c.args.place t c.args.start) (sym c.in_ok-old.ensures) c.requires.start
