use Rattle.std.proofs.Common.{Result, Some, refl, sym, subst, w32, SFits, rules}
use Rattle.composables.specs.declared.items.Place.{Place}
use Rattle.composables.specs.declared.refusals.Done.{Done}
use Rattle.composables.specs.declared.refusals.Refusal.{Refusal}
use Rattle.out_of_memory.specs.Answers.{Answers}
use Rattle.composables.specs.TrackState.{TrackState}
use Rattle.edit_roll.proofs.Slides.{slide-means, slide-stays}
use Rattle.edit_roll.proofs.sliding.slide_found.Goals as goal

pub returns-in-Some-clause-answers : goal.returns-in-Some-clause-answers
returns-in-Some-clause-answers g c =
    let fits : SFits w32 c.args.call.now.by = search rules in
    let at : Place = record { index = c.args.found.index; from = c.args.found.from; to = c.args.found.to } in
    subst (λ (m : Result (TrackState × Done) Refusal). Answers m c.args.track.now c.slide_item.new.track c.slide_item.result)
    (sym (slide-means c.args.table.now c.args.call.now c.args.track.now (Some at) at fits c.requires.range refl)) c.slide_item.ensures.answers

pub returns-in-None-clause-answers : goal.returns-in-None-clause-answers
returns-in-None-clause-answers g c =
    let at : Place = record { index = c.args.found.index; from = c.args.found.from; to = c.args.found.to } in
    slide-stays c.args.table.now c.args.call.now c.args.track.now (Some at) at c.requires.range refl (c.in-None.ensures.none refl)
