use Rattle.std.proofs.Common.{Result, sym, refl, subst, w32, SFits, rules}
use Rattle.composables.specs.declared.refusals.Done.{Done}
use Rattle.composables.specs.declared.refusals.Refusal.{Refusal}
use Rattle.out_of_memory.specs.Answers.{Answers}
use Rattle.composables.specs.TrackState.{TrackState}
use Rattle.edit_splice.proofs.Standing.{stays-self}
use Rattle.edit_roll.proofs.Moves.{track-rolls, track-stays}
use Rattle.edit_roll.proofs.rolling.roll_track.Goals as goal

pub returns-in-Some-clause-answers : goal.returns-in-Some-clause-answers
returns-in-Some-clause-answers g c =
    let fits : SFits w32 c.args.call.now.by = search rules in
    subst (λ (m : Result (TrackState × Done) Refusal). Answers m c.args.track.now c.roll_cut.new.track c.roll_cut.result)
    (sym (track-rolls c.args.table.now c.args.call.now c.args.track.now fits c.in-Some.ensures.cut)) c.roll_cut.ensures.answers

pub returns-in-None-clause-answers : goal.returns-in-None-clause-answers
returns-in-None-clause-answers g c = (track-stays c.args.table.now c.args.call.now c.args.track.now (c.in-None.ensures.none refl), refl)

pub returns-in-None-clause-good : goal.returns-in-None-clause-good
returns-in-None-clause-good g c = stays-self c.args.table.now c.args.track.now c.requires.good
