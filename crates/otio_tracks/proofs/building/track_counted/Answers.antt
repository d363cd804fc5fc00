use Rattle.std.proofs.Common.{[], arith, ap, ◌∙◌, sym, subst}
use Rattle.composables.specs.TrackState.{replaced}
use Rattle.composables.specs.TrackFacts.{IsKept}
use Rattle.otio_tracks.proofs.TrackSound.{made_kept, made_replaced, views_filled, views_below}
use Rattle.otio_tracks.proofs.building.track_counted.Goals as goal

pub replace-requires-clause-filled : goal.replace-requires-clause-filled
replace-requires-clause-filled g c = rw c.in_ok-views.ensures (views_filled c.args.parts.now c.requires.sound)

pub replace-requires-clause-numbers : goal.replace-requires-clause-numbers
replace-requires-clause-numbers g c = rw c.in_ok-views.ensures (views_below c.args.parts.now c.requires.count)

pub replace-requires-clause-kept : goal.replace-requires-clause-kept
replace-requires-clause-kept g c =
    rw (c.in_ok-views.ensures, c.empty-track.ensures) (subst IsKept (sym (made_replaced c.args.number c.args.parts.now)) (made_kept c.args.number c.args.parts.now c.requires.sound (omega (arith, c.requires.frames))))

pub returns : goal.returns
returns g c =
    c.in_ok-replace.ensures.ok
    ∙ (ap (λ t. replaced t 0 0 c.in_ok-views.views.items) c.empty-track.ensures
    ∙ (ap (λ vs. replaced (record { number = c.args.number; cells = []; next_item = 0; next_link = 0 }) 0 0 vs) c.in_ok-views.ensures ∙ made_replaced c.args.number c.args.parts.now))
