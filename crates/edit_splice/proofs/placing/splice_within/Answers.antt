use Rattle.std.proofs.Common.{ap, is_ok, sym, ◌∙◌, arith, refl, Ok, Err}
use Rattle.out_of_memory.proofs.Answered.{answers-memory}
use Rattle.edit_splice.proofs.Numbers.{below-weaker}
use Rattle.edit_splice.proofs.Outcomes.{length-spliced_track}
use Rattle.edit_splice.specs.Splicing.{placed, spliced_track}
use Rattle.composables.specs.declared.refusals.Refusal.TheVariants.{TooManyItems}
use Rattle.composables.specs.TrackState.{TrackState}
use Rattle.edit_splice.proofs.Limits.{within-few, within-many}
use Rattle.edit_splice.proofs.placing.splice_within.Goals as goal

pub count_at-requires-clause-numbers : goal.count_at-requires-clause-numbers
count_at-requires-clause-numbers g c = below-weaker 4294967294 4294967295 c.args.items.now (omega arith) c.requires.numbers

pub count_at-requires-clause-short : goal.count_at-requires-clause-short
count_at-requires-clause-short g c =
    omega (arith, c.requires.short)

pub returns-then-count_at-gt-MAX_ITEMS-clause-answers :
    goal.returns-then-count_at-gt-MAX_ITEMS-clause-answers
returns-then-count_at-gt-MAX_ITEMS-clause-answers g c =
    let u : TrackState = spliced_track c.args.keep c.args.track.now c.args.x c.args.y c.args.items.now in (
      within-many u c.args.done
          (omega (arith, length-spliced_track c.args.keep c.args.track.now c.args.x c.args.y c.args.items.now c.requires.order c.requires.within, c.requires.short))
          (omega (arith, c.count_at.ensures.count c.args.keep, c.if-count_at-gt-MAX_ITEMS.true))
          ∙ ap (λ n. Err (TooManyItems n)) (sym c.number.ensures),
      refl,
    )

pub splice_at-requires-clause-kept : goal.splice_at-requires-clause-kept
splice_at-requires-clause-kept g c =
    c.requires.kept (omega (arith, c.count_at.ensures.count c.args.keep, c.if-count_at-gt-MAX_ITEMS.false))

pub returns-in_err-splice_at-clause-answers : goal.returns-in_err-splice_at-clause-answers
returns-in_err-splice_at-clause-answers g c =
    let u : TrackState = spliced_track c.args.keep c.args.track.now c.args.x c.args.y c.args.items.now in
    answers-memory (placed c.args.keep c.args.track.now c.args.x c.args.y c.args.items.now c.args.done) c.args.track.now c.splice_at.new.track c.from_residual.result c.from_residual.ensures.1
    (ap is_ok (within-few u c.args.done
    (omega (arith, length-spliced_track c.args.keep c.args.track.now c.args.x c.args.y c.args.items.now c.requires.order c.requires.within, c.requires.short))
    (omega (arith, c.count_at.ensures.count c.args.keep, c.if-count_at-gt-MAX_ITEMS.false)))) c.in_err-splice_at.ensures.err

pub returns-clause-answers : goal.returns-clause-answers
returns-clause-answers g c =
    let u : TrackState = spliced_track c.args.keep c.args.track.now c.args.x c.args.y c.args.items.now in
    within-few u c.args.done
    (omega (arith, length-spliced_track c.args.keep c.args.track.now c.args.x c.args.y c.args.items.now c.requires.order c.requires.within, c.requires.short))
    (omega (arith, c.count_at.ensures.count c.args.keep, c.if-count_at-gt-MAX_ITEMS.false))
    ∙ ap (λ n. Ok (n, c.args.done)) (sym c.in_ok-splice_at.ensures.ok)
