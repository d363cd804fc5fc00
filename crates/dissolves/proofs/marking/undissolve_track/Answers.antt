use Rattle.std.proofs.Common.{Ok, is_ok, refl, sym, ap, ◌∙◌, subst}
use Rattle.composables.specs.declared.refusals.Done.TheVariants.{Plain}
use Rattle.composables.specs.Good.{IsGood}
use Rattle.composables.specs.TrackState.{TrackState}
use Rattle.out_of_memory.proofs.Answered.{answers-memory}
use Rattle.dissolves.specs.Marking.{undissolve_on}
use Rattle.dissolves.proofs.Marked.{undissolve_marks, undissolve_refused}
use Rattle.dissolves.proofs.marking.undissolve_track.Goals as goal

pub returns-then-is_none-clause-answers : goal.returns-then-is_none-clause-answers
returns-then-is_none-clause-answers g c = (undissolve_refused c.args.track.now c.args.call.now c.in-Some.cut c.requires.good.kept c.in-Some.ensures.cut c.if-is_none.ensures, refl)

pub set_mark-requires-clause-kept : goal.set_mark-requires-clause-kept
set_mark-requires-clause-kept g c = (undissolve_marks c.args.table.now c.args.track.now c.args.call.now c.in-Some.cut c.requires.good c.in-Some.ensures.cut c.if-is_none.ensures).track.good.kept

pub returns-in_err-set_mark-clause-answers : goal.returns-in_err-set_mark-clause-answers
returns-in_err-set_mark-clause-answers g c =
    answers-memory (undissolve_on c.args.track.now c.args.call.now) c.args.track.now c.set_mark.new.self c.from_residual.result c.from_residual.ensures.1
    (ap is_ok (undissolve_marks c.args.table.now c.args.track.now c.args.call.now c.in-Some.cut c.requires.good c.in-Some.ensures.cut c.if-is_none.ensures).meant) c.in_err-set_mark.ensures.err

pub returns-clause-answers : goal.returns-clause-answers
returns-clause-answers g c = (undissolve_marks c.args.table.now c.args.track.now c.args.call.now c.in-Some.cut c.requires.good c.in-Some.ensures.cut c.if-is_none.ensures).meant ∙ ap (λ (u : TrackState). Ok (u, Plain)) (sym c.in_ok-set_mark.ensures.ok)

pub returns-clause-good : goal.returns-clause-good
returns-clause-good g c = subst (IsGood c.args.table.now) (sym c.in_ok-set_mark.ensures.ok) (undissolve_marks c.args.table.now c.args.track.now c.args.call.now c.in-Some.cut c.requires.good c.in-Some.ensures.cut c.if-is_none.ensures).track.good
