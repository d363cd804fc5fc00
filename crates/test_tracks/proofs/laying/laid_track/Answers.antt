use Rattle.std.proofs.Common.{ap, sym, ◌∙◌, subst}
use Rattle.composables.specs.Good.{AllUnlinked}
use Rattle.composables.specs.TrackState.{next_past_all}
use Rattle.test_tracks.proofs.Found.{can-be, is-good, linked-of}
use Rattle.test_tracks.proofs.Laid.{unequal}
use Rattle.test_tracks.proofs.laying.laid_track.Goals as goal

pub returns-then-not-can_be_laid-clause-none : goal.returns-then-not-can_be_laid-clause-none
returns-then-not-can_be_laid-clause-none c = λ none rise t h.
    unequal (sym c.if-not-can_be_laid.true ∙ c.can_be_laid.ensures.1 (can-be c.args.table.now c.args.number c.args.views.now t rise (linked-of c.args.table.now c.args.number c.args.views.now t h)))

pub returns-else-is_bare-clause-none : goal.returns-else-is_bare-clause-none
returns-else-is_bare-clause-none c = λ none rise t h.
    let items = c.in_ok-track.ensures.items ∙ c.in_ok-items.ensures.items in
    let good = is-good c.args.table.now c.args.number c.args.views.now c.in_ok-track.track t (linked-of c.args.table.now c.args.number c.args.views.now t h)
    c.in_ok-track.ensures.kept c.in_ok-track.ensures.number items (c.in_ok-track.ensures.next ∙ ap (next_past_all 0) c.in_ok-items.ensures.items) c.in_ok-track.ensures.link in
    unequal (sym c.if-is_bare.false ∙ c.is_bare.ensures.1 (good.0, good.1, subst AllUnlinked (h.items ∙ sym items) h.unlinked))
