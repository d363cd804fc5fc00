use Rattle.std.proofs.Common.{◌≡◌, ℕ, length, ap, sym, ◌∙◌, arith, refl, None, Some, Err, Result, ◌++◌, subst}
use Rattle.composables.specs.declared.refusals.Refusal.TheVariants.{TooLong}
use Rattle.composables.specs.declared.refusals.Done.TheVariants.{Item}
use Rattle.composables.specs.declared.items.ItemView.{ItemView}
use Rattle.composables.specs.declared.refusals.Done.{Done}
use Rattle.composables.specs.declared.refusals.Refusal.{Refusal}
use Rattle.composables.specs.TrackState.{TrackState}
use Rattle.composables.specs.Views.{gap_views}
use Rattle.out_of_memory.specs.Answers.{Answers}
use Rattle.edit_insert.specs.Edits.{overwritten}
use Rattle.edit_splice.specs.Padding.{new_views}
use Rattle.edit_insert.specs.Sources.{source_refusal}
use Rattle.edit_splice.proofs.Limits.{within-long}
use Rattle.edit_insert.proofs.OverPlaces.{items-told, over-length, over-allowed, over-parts}
use Rattle.edit_splice.proofs.Put.{PutIn, put-clip}
use Rattle.edit_insert.proofs.SourceRanges.{source-clip}
use Rattle.edit_splice.proofs.Standing.{stays-placed, stays-self}
use Rattle.edit_insert.proofs.overwriting.overwrite_track.Goals as goal

pub returns-then-from-clause-answers : goal.returns-then-from-clause-answers
returns-then-from-clause-answers g c =
    let none : source_refusal c.args.table.now c.args.track.now.number c.args.call.now.what c.args.call.now.from c.args.call.now.len ≡ None =
    ap (λ (n : ℕ). source_refusal c.args.table.now n c.args.call.now.what c.args.call.now.from c.args.call.now.len) (sym c.number.ensures)
    ∙ (sym c.source_refusal.ensures.refusal ∙ c.in-None.is) in (
      over-allowed c.args.table.now c.args.call.now c.args.track.now none
          ∙ within-long (overwritten c.args.call.now.keep c.args.track.now c.args.call.now.at c.args.call.now.what c.args.call.now.from c.args.call.now.len) (Item c.args.track.now.next_item)
          (omega (arith, over-length c.args.call.now.keep c.args.track.now c.args.call.now.at c.args.call.now.what c.args.call.now.from c.args.call.now.len c.requires.good.kept, c.if-from.true, c.from.ensures, c.from-2.ensures, c.from-3.ensures))
          ∙ ap (λ (n : ℕ). Err (TooLong n)) (sym c.number-then-from.ensures),
      refl,
    )

pub returns-clause-answers : goal.returns-clause-answers
returns-clause-answers g c =
    let none : source_refusal c.args.table.now c.args.track.now.number c.args.call.now.what c.args.call.now.from c.args.call.now.len ≡ None =
    ap (λ (n : ℕ). source_refusal c.args.table.now n c.args.call.now.what c.args.call.now.from c.args.call.now.len) (sym c.number.ensures)
    ∙ (sym c.source_refusal.ensures.refusal ∙ c.in-None.is) in
    let parts = over-parts c.args.table.now c.args.call.now c.args.track.now c.min.result c.min-2.result c.next_item-number.result c.as_slice.result.now none c.requires.good.kept
    (omega (arith, c.min.ensures, c.length-length.ensures.value)) (omega (arith, c.min-2.ensures, c.length-length.ensures.value)) c.next_item-number.ensures
    (items-told c.args.call.now.at c.args.call.now.len c.saturating_sub.result c.next_item-number.result c.args.call.now.what c.args.call.now.from c.args.track.now.next_item (length c.args.track.now.cells) c.clip-item.result c.as_slice.result.now
    (c.as_slice.ensures ∙ c.of-items.ensures) (omega (arith, c.saturating_sub.ensures, c.length-length.ensures.value)) c.clip-item.ensures c.next_item-number.ensures) in
    subst (λ (m : Result (TrackState × Done) Refusal). Answers m c.args.track.now c.place.new.track c.place.result) (sym parts) c.place.ensures.answers

pub returns-clause-good : goal.returns-clause-good
returns-clause-good g c =
    let none : source_refusal c.args.table.now c.number.result c.args.call.now.what c.args.call.now.from c.args.call.now.len ≡ None = sym c.source_refusal.ensures.refusal ∙ c.in-None.is in
    let clip = source-clip c.args.table.now c.number.result c.args.call.now.what c.args.call.now.from c.args.call.now.len none (rw c.in-None.is at c.source_refusal.ensures.filled) (rw c.in-None.is at c.source_refusal.ensures.source) in
    stays-placed c.args.call.now.keep c.args.table.now c.args.track.now c.place.new.track c.min.result c.min-2.result c.as_slice.result.now (Item c.next_item-number.result) c.place.result c.requires.good
    (omega (arith, c.min.ensures, c.min-2.ensures)) (omega (arith, c.min-2.ensures, c.length-length.ensures.value))
    (subst (PutIn c.args.table.now c.args.track.now) (sym (c.as_slice.ensures ∙ c.of-items.ensures ∙ ap (λ (v : ItemView). gap_views c.saturating_sub.result ++ new_views (Some v)) c.clip-item.ensures))
    (put-clip c.args.table.now c.args.track.now c.saturating_sub.result c.next_item-number.result c.args.call.now.what c.args.call.now.from c.args.call.now.len c.next_item-number.ensures clip))
    c.place.ensures.answers

pub returns-in-Some-clause-good : goal.returns-in-Some-clause-good
returns-in-Some-clause-good g c = stays-self c.args.table.now c.args.track.now c.requires.good

pub returns-then-from-clause-good : goal.returns-then-from-clause-good
returns-then-from-clause-good g c = stays-self c.args.table.now c.args.track.now c.requires.good
