use Rattle.std.proofs.Common.{false, ap, ◌∙◌}
use Rattle.composables.specs.Items.{items_of}
use Rattle.composables.specs.TrackState.{TrackState}
use Rattle.test_tracks.proofs.Laid.{filled_of, below_of, items_laid, kept_laid}
use Rattle.test_tracks.proofs.laying.laid.Goals as goal

pub replace-requires-clause-filled : goal.replace-requires-clause-filled
replace-requires-clause-filled g c = filled_of 0 false c.args.items.items c.requires.laid.each

pub replace-requires-clause-numbers : goal.replace-requires-clause-numbers
replace-requires-clause-numbers g c = below_of 0 false c.args.items.items c.requires.laid.each

pub replace-requires-clause-kept : goal.replace-requires-clause-kept
replace-requires-clause-kept g c = kept_laid c.args.items.items c.empty-track.result c.args.number c.empty-track.ensures c.requires.laid

pub returns-clause-items : goal.returns-clause-items
returns-clause-items g c =
    ap (λ (t : TrackState). items_of t.cells) c.in_ok-replace.ensures.ok
    ∙ items_laid c.args.items.items c.empty-track.result c.args.number c.empty-track.ensures c.requires.laid
