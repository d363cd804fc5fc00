use Rattle.std.proofs.Common.{List, ap, is_ok, refl, sym, subst, ◌∙◌, Ok, ◌≡◌, Some, None}
use Rattle.composables.specs.Limits.{over_limits, within_limits}
use Rattle.composables.specs.TrackState.{TrackState}
use Rattle.out_of_memory.proofs.Answered.{answers-memory}
use Rattle.edit_splice.specs.Moves.{all_moved}
use Rattle.edit_splice.proofs.Limits.{over-refused, within-all}
use Rattle.edit_splice.proofs.shifting.shift_tracks.Goals as goal

pub shifted-requires-clause-within : goal.shifted-requires-clause-within
shifted-requires-clause-within g c =
    subst (λ (ts : List TrackState). over_limits (all_moved c.args.shift.now ts) ≡ None) (c.deref.ensures.value ∙ sym c.deref-2.ensures.value) (sym c.in-None.ensures.refusal)

pub returns-in-Some-clause-answers : goal.returns-in-Some-clause-answers
returns-in-Some-clause-answers g c = (
  over-refused (all_moved c.args.shift.now c.args.named.now.items) c.args.done c.in-Some.refusal
      (subst (λ (ts : List TrackState). over_limits (all_moved c.args.shift.now ts) ≡ Some c.in-Some.refusal) c.deref.ensures.value (sym c.in-Some.ensures.refusal)),
  refl,
)

pub returns-in_err-moved-clause-answers : goal.returns-in_err-moved-clause-answers
returns-in_err-moved-clause-answers g c =
    let none : over_limits (all_moved c.args.shift.now c.args.named.now.items) ≡ None =
    subst (λ (ts : List TrackState). over_limits (all_moved c.args.shift.now ts) ≡ None) c.deref.ensures.value (sym c.in-None.ensures.refusal) in
    answers-memory (within_limits (all_moved c.args.shift.now c.args.named.now.items) c.args.done) c.args.named.now.items c.args.named.now.items c.from_residual.result c.from_residual.ensures.1
    (ap is_ok (within-all (all_moved c.args.shift.now c.args.named.now.items) c.args.done none)) refl

pub returns-clause-answers : goal.returns-clause-answers
returns-clause-answers g c =
    let none : over_limits (all_moved c.args.shift.now c.args.named.now.items) ≡ None =
    subst (λ (ts : List TrackState). over_limits (all_moved c.args.shift.now ts) ≡ None) c.deref.ensures.value (sym c.in-None.ensures.refusal) in
    let moved : c.in_ok-moved.moved.items ≡ all_moved c.args.shift.now c.args.named.now.items = c.in_ok-moved.ensures.moved ∙ ap (all_moved c.args.shift.now) c.deref-2.ensures.value in
    within-all (all_moved c.args.shift.now c.args.named.now.items) c.args.done none ∙ ap (λ (ts : List TrackState). Ok (ts, c.args.done)) (sym {A = List TrackState} moved)
