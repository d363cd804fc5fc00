use Rattle.std.proofs.Common.{[], ap, ◌∙◌}
use Rattle.composables.specs.TrackState.{replaced}
use Rattle.list_import.specs.TrackItems.{track_views}
use Rattle.list_import.proofs.KeptTracks.{track_is, views_put}
use Rattle.list_import.proofs.tracks.track_counted.Goals as goal

pub replace-requires-clause-filled : goal.replace-requires-clause-filled
replace-requires-clause-filled g c = rw c.in_ok-views.ensures (views_put c.args.number c.args.start c.args.shots.now c.requires.laid).filled

pub replace-requires-clause-numbers : goal.replace-requires-clause-numbers
replace-requires-clause-numbers g c = rw c.in_ok-views.ensures (views_put c.args.number c.args.start c.args.shots.now c.requires.laid).numbers

pub replace-requires-clause-kept : goal.replace-requires-clause-kept
replace-requires-clause-kept g c = rw (c.in_ok-views.ensures, c.empty-track.ensures) (views_put c.args.number c.args.start c.args.shots.now c.requires.laid).kept

pub returns : goal.returns
returns g c =
    c.in_ok-replace.ensures.ok
    ∙ (ap (λ t. replaced t 0 0 c.in_ok-views.views.items) c.empty-track.ensures
    ∙ (ap (λ vs. replaced (record { number = c.args.number; cells = []; next_item = 0; next_link = 0 }) 0 0 vs) c.in_ok-views.ensures ∙ track_is c.args.number (track_views c.args.start 0 c.args.shots.now)))
