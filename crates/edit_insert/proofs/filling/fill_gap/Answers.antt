use Rattle.std.proofs.Common.{◌≡◌, ◌+◌, ◌-◌, ◌++◌, ℕ, ap, sym, ◌∙◌, arith, min, refl, None, Some, Result, subst}
use Rattle.composables.specs.declared.items.ItemView.{ItemView}
use Rattle.composables.specs.declared.refusals.Done.{Done}
use Rattle.composables.specs.declared.refusals.Done.TheVariants.{Item}
use Rattle.composables.specs.declared.refusals.Refusal.{Refusal}
use Rattle.out_of_memory.specs.Answers.{Answers}
use Rattle.composables.specs.Joined.{frames_in}
use Rattle.composables.specs.TrackState.{TrackState}
use Rattle.composables.specs.Views.{gap_views}
use Rattle.edit_insert.specs.Fills.{frames_asked}
use Rattle.edit_insert.specs.Sources.{source_refusal}
use Rattle.edit_insert.proofs.Filled.{fill-parts, fill-put, fill-refused, place-some}
use Rattle.edit_splice.specs.Padding.{new_views}
use Rattle.edit_splice.proofs.Moving.{frames-put}
use Rattle.edit_splice.proofs.Places.{place-order, place-within}
use Rattle.edit_splice.proofs.Standing.{stays-placed, stays-self}
use Rattle.edit_insert.proofs.filling.fill_gap.Goals as goal

pub overflow_sub-room : goal.overflow_sub-room
overflow_sub-room g c = place-order c.args.track.now c.args.gap c.requires.gap

pub returns-in-Some-clause-good : goal.returns-in-Some-clause-good
returns-in-Some-clause-good g c = stays-self c.args.table.now c.args.track.now c.requires.good

pub returns-in-Some-clause-answers : goal.returns-in-Some-clause-answers
returns-in-Some-clause-answers g c = (
  fill-refused c.args.table.now c.args.call.now c.args.track.now c.args.gap.from c.args.gap.to c.in-Some.refusal
      (ap (λ (n : ℕ). source_refusal c.args.table.now n c.args.call.now.what c.args.call.now.from (frames_asked c.args.call.now.length (c.args.gap.to - c.args.gap.from))) (sym c.number.ensures)
      ∙ ap (λ (k : ℕ). source_refusal c.args.table.now c.number.result c.args.call.now.what c.args.call.now.from k) (sym c.frames_asked-asked.ensures)
      ∙ sym c.source_refusal.ensures.refusal ∙ c.in-Some.is),
  refl,
)

pub place-requires-clause-order : goal.place-requires-clause-order
place-requires-clause-order g c = omega arith

pub place-requires-clause-within : goal.place-requires-clause-within
place-requires-clause-within g c =
    omega (arith, c.min-len.ensures, place-order c.args.track.now c.args.gap c.requires.gap, place-within c.args.track.now c.args.gap c.requires.good.kept c.requires.gap)

pub place-requires-clause-new : goal.place-requires-clause-new
place-requires-clause-new g c =
    let p = fill-put c.args.table.now c.args.call.now c.args.track.now c.number.result c.next_item-number.result c.frames_asked-asked.result (c.args.gap.to - c.args.gap.from) c.min-len.result c.as_slice.result.now (sym c.source_refusal.ensures.refusal ∙ c.in-None.is) (rw c.in-None.is at c.source_refusal.ensures.filled) (rw c.in-None.is at c.source_refusal.ensures.source)
    (omega (arith, place-some c.args.track.now c.args.gap c.requires.good.kept c.requires.gap)) c.min-len.ensures c.next_item-number.ensures (c.as_slice.ensures ∙ c.of-items.ensures ∙ ap (λ (v : ItemView). gap_views 0 ++ new_views (Some v)) c.clip-item.ensures) in
    p.new.new

pub place-requires-clause-numbers : goal.place-requires-clause-numbers
place-requires-clause-numbers g c =
    let p = fill-put c.args.table.now c.args.call.now c.args.track.now c.number.result c.next_item-number.result c.frames_asked-asked.result (c.args.gap.to - c.args.gap.from) c.min-len.result c.as_slice.result.now (sym c.source_refusal.ensures.refusal ∙ c.in-None.is) (rw c.in-None.is at c.source_refusal.ensures.filled) (rw c.in-None.is at c.source_refusal.ensures.source)
    (omega (arith, place-some c.args.track.now c.args.gap c.requires.good.kept c.requires.gap)) c.min-len.ensures c.next_item-number.ensures (c.as_slice.ensures ∙ c.of-items.ensures ∙ ap (λ (v : ItemView). gap_views 0 ++ new_views (Some v)) c.clip-item.ensures) in
    p.numbers

pub place-requires-clause-short : goal.place-requires-clause-short
place-requires-clause-short g c =
    omega (
      arith,
      ap frames_in (c.as_slice.ensures ∙ c.of-items.ensures),
      frames-put 0 (Some c.clip-item.result),
      ap (λ (v : ItemView). v.len) c.clip-item.ensures,
      c.min-len.ensures,
      place-order c.args.track.now c.args.gap c.requires.gap,
      place-within c.args.track.now c.args.gap c.requires.good.kept c.requires.gap,
      c.requires.good.frames,
    )

pub returns-clause-answers : goal.returns-clause-answers
returns-clause-answers g c =
    let none : source_refusal c.args.table.now c.args.track.now.number c.args.call.now.what c.args.call.now.from (frames_asked c.args.call.now.length (c.args.gap.to - c.args.gap.from)) ≡ None =
    ap (λ (n : ℕ). source_refusal c.args.table.now n c.args.call.now.what c.args.call.now.from (frames_asked c.args.call.now.length (c.args.gap.to - c.args.gap.from))) (sym c.number.ensures)
    ∙ ap (λ (k : ℕ). source_refusal c.args.table.now c.number.result c.args.call.now.what c.args.call.now.from k) (sym c.frames_asked-asked.ensures)
    ∙ sym c.source_refusal.ensures.refusal ∙ c.in-None.is in
    let parts = fill-parts c.args.table.now c.args.call.now c.args.track.now c.args.gap.from c.args.gap.to c.min-len.result c.next_item-number.result c.as_slice.result.now none
    (c.min-len.ensures ∙ ap (λ (k : ℕ). min k (c.args.gap.to - c.args.gap.from)) c.frames_asked-asked.ensures) c.next_item-number.ensures (c.as_slice.ensures ∙ c.of-items.ensures ∙ ap (λ (v : ItemView). gap_views 0 ++ new_views (Some v)) c.clip-item.ensures) in
    subst (λ (m : Result (TrackState × Done) Refusal). Answers m c.args.track.now c.place.new.track c.place.result) (sym parts) c.place.ensures.answers

pub returns-clause-good : goal.returns-clause-good
returns-clause-good g c =
    let p = fill-put c.args.table.now c.args.call.now c.args.track.now c.number.result c.next_item-number.result c.frames_asked-asked.result (c.args.gap.to - c.args.gap.from) c.min-len.result c.as_slice.result.now (sym c.source_refusal.ensures.refusal ∙ c.in-None.is) (rw c.in-None.is at c.source_refusal.ensures.filled) (rw c.in-None.is at c.source_refusal.ensures.source)
    (omega (arith, place-some c.args.track.now c.args.gap c.requires.good.kept c.requires.gap)) c.min-len.ensures c.next_item-number.ensures (c.as_slice.ensures ∙ c.of-items.ensures ∙ ap (λ (v : ItemView). gap_views 0 ++ new_views (Some v)) c.clip-item.ensures) in
    stays-placed c.args.call.now.keep c.args.table.now c.args.track.now c.place.new.track c.args.gap.from (c.args.gap.from + c.min-len.result) c.as_slice.result.now (Item c.next_item-number.result) c.place.result c.requires.good
    (omega arith) (omega (arith, c.min-len.ensures, place-order c.args.track.now c.args.gap c.requires.gap, place-within c.args.track.now c.args.gap c.requires.good.kept c.requires.gap))
    p c.place.ensures.answers
