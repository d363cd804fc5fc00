use Rattle.std.proofs.Common.{Ok, is_ok, refl, sym, ap, ◌∙◌, subst}
use Rattle.composables.specs.declared.refusals.Done.TheVariants.{Plain}
use Rattle.composables.specs.Good.{IsGood}
use Rattle.composables.specs.TrackState.{TrackState}
use Rattle.out_of_memory.proofs.Answered.{answers-memory}
use Rattle.dissolves.specs.Marking.{dissolve_on}
use Rattle.dissolves.proofs.Marked.{dissolve_marks, dissolve_refused}
use Rattle.dissolves.proofs.marking.dissolve_track.Goals as goal

pub returns-in-Some-room_refusal-clause-answers : goal.returns-in-Some-room_refusal-clause-answers
returns-in-Some-room_refusal-clause-answers g c = (
  dissolve_refused c.args.table.now c.args.track.now c.args.call.now c.in-Some.cut c.in-Some-room_refusal.refusal (sym c.is_empty.ensures ∙ c.if-is_empty.false) c.requires.good.kept c.in-Some.ensures.cut
      (sym c.room_refusal.ensures.refusal ∙ c.in-Some-room_refusal.is),
  refl,
)

pub set_mark-requires-clause-kept : goal.set_mark-requires-clause-kept
set_mark-requires-clause-kept g c = (dissolve_marks c.args.table.now c.args.track.now c.args.call.now c.in-Some.cut (sym c.is_empty.ensures ∙ c.if-is_empty.false) c.requires.good c.in-Some.ensures.cut (sym c.room_refusal.ensures.refusal ∙ c.in-None.is) (c.in-None.ensures.source refl)).track.good.kept

pub returns-in_err-set_mark-clause-answers : goal.returns-in_err-set_mark-clause-answers
returns-in_err-set_mark-clause-answers g c =
    answers-memory (dissolve_on c.args.table.now c.args.track.now c.args.call.now) c.args.track.now c.set_mark.new.self c.from_residual.result c.from_residual.ensures.1
    (ap is_ok (dissolve_marks c.args.table.now c.args.track.now c.args.call.now c.in-Some.cut (sym c.is_empty.ensures ∙ c.if-is_empty.false) c.requires.good c.in-Some.ensures.cut (sym c.room_refusal.ensures.refusal ∙ c.in-None.is) (c.in-None.ensures.source refl)).meant) c.in_err-set_mark.ensures.err

pub returns-clause-answers : goal.returns-clause-answers
returns-clause-answers g c = (dissolve_marks c.args.table.now c.args.track.now c.args.call.now c.in-Some.cut (sym c.is_empty.ensures ∙ c.if-is_empty.false) c.requires.good c.in-Some.ensures.cut (sym c.room_refusal.ensures.refusal ∙ c.in-None.is) (c.in-None.ensures.source refl)).meant ∙ ap (λ (u : TrackState). Ok (u, Plain)) (sym c.in_ok-set_mark.ensures.ok)

pub returns-clause-good : goal.returns-clause-good
returns-clause-good g c = subst (IsGood c.args.table.now) (sym c.in_ok-set_mark.ensures.ok) (dissolve_marks c.args.table.now c.args.track.now c.args.call.now c.in-Some.cut (sym c.is_empty.ensures ∙ c.if-is_empty.false) c.requires.good c.in-Some.ensures.cut (sym c.room_refusal.ensures.refusal ∙ c.in-None.is) (c.in-None.ensures.source refl)).track.good
