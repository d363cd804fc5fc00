use Rattle.std.proofs.Common.{◌≡◌, Some, None, Result, Err, ap, sym, ◌∙◌, refl, subst, option_map, ℕ}
use Rattle.composables.specs.declared.items.Place.{Place}
use Rattle.composables.specs.declared.refusals.Done.{Done}
use Rattle.composables.specs.declared.refusals.Refusal.{Refusal}
use Rattle.out_of_memory.specs.Answers.{Answers}
use Rattle.composables.specs.TrackState.{TrackState}
use Rattle.composables.specs.Ranges.{gap_at}
use Rattle.edit_insert.specs.Fills.{fill_at, why_no_gap}
use Rattle.edit_splice.proofs.Standing.{stays-self}
use Rattle.edit_insert.proofs.filling.fill_track.Goals as goal

pub returns-in-Some-clause-answers : goal.returns-in-Some-clause-answers
returns-in-Some-clause-answers g c =
    let found : gap_at c.args.track.now.cells c.args.call.now.at ≡ Some (c.in-Some.gap.from, c.in-Some.gap.to) = c.gap_at.ensures.gap ∙ ap (option_map (λ (p : Place). (p.from, p.to))) c.in-Some.is in
    subst (λ (m : Result (TrackState × Done) Refusal). Answers m c.args.track.now c.fill_gap.new.track c.fill_gap.result) (sym (ap (fill_at c.args.table.now c.args.call.now c.args.track.now) found)) c.fill_gap.ensures.answers

pub returns-in-None-clause-answers : goal.returns-in-None-clause-answers
returns-in-None-clause-answers g c =
    let none : gap_at c.args.track.now.cells c.args.call.now.at ≡ None = c.gap_at.ensures.gap ∙ ap (option_map (λ (p : Place). (p.from, p.to))) c.in-None.is in (
      ap (fill_at c.args.table.now c.args.call.now c.args.track.now) none
          ∙ (ap (λ (n : ℕ). Err (why_no_gap c.args.table.now n c.args.call.now)) (sym c.number.ensures) ∙ ap (λ (why : Refusal). Err why) (sym c.why_no_gap.ensures)),
      refl,
    )

pub returns-in-None-clause-good : goal.returns-in-None-clause-good
returns-in-None-clause-good g c = stays-self c.args.table.now c.args.track.now c.requires.good
