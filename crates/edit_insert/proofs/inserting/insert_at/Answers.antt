use Rattle.std.proofs.Common.{◌≡◌, ℕ, ◌+◌, List, Result, refl, sym, ap, ◌∙◌, arith, subst, get_or}
use Rattle.composables.specs.declared.items.ItemView.{ItemView}
use Rattle.link_groups.specs.LinkedShifts.{linked_shift}
use Rattle.composables.specs.declared.refusals.Done.{Done}
use Rattle.composables.specs.declared.refusals.Done.TheVariants.{Item}
use Rattle.composables.specs.declared.refusals.Refusal.{Refusal}
use Rattle.composables.specs.Good.{IsGood}
use Rattle.composables.specs.TrackState.{TrackState}
use Rattle.out_of_memory.specs.Answers.{Answers}
use Rattle.edit_insert.proofs.Inserts.{each-stays}
use Rattle.edit_insert.proofs.Inserts.{all-shifts, insert-allowed, insert-put, insert-refused, is-own, no_track, own-here, own-there, shift_at}
use Rattle.edit_insert.proofs.SourceRanges.{source-clip}
use Rattle.link_groups.proofs.GoodShifts.{each-linked}
use Rattle.edit_splice.proofs.Standing.{each-self}
use Rattle.link_groups.proofs.Meant.{may-split}
use Rattle.edit_insert.proofs.inserting.insert_at.Goals as goal

pub returns-clause-answers : goal.returns-clause-answers
returns-clause-answers g c =
    let own = is-own c.args.call.now.track c.args.call.now.tracks c.args.index c.args.named.now.items c.index.result.now c.requires.named c.requires.found (own-here c.args.named.now.items c.args.index c.index.result.now c.requires.within c.index.ensures) in
    let clip = source-clip c.args.table.now c.args.call.now.track c.args.call.now.what c.args.call.now.from c.args.call.now.len (sym c.source_refusal.ensures.refusal ∙ c.in-None.is) (rw c.in-None.is at c.source_refusal.ensures.filled) (rw c.in-None.is at c.source_refusal.ensures.source) in
    let place : c.args.call.now.at + c.clip.result.len ≡ c.from-at.result + c.from-len.result = omega (arith, c.from-at.ensures, c.from-len.ensures, ap (λ (v : ItemView). v.len) c.clip.ensures) in
    subst (λ (m : Result (List TrackState × Done) Refusal). Answers m c.args.named.now.items c.shift_linked.new.named.items c.shift_linked.result)
    (sym (insert-allowed c.args.table.now c.args.call.now c.args.call.now.tracks c.args.named.now.items c.index.result.now c.clip.result c.next_item-number.result own
    (sym c.source_refusal.ensures.refusal ∙ c.in-None.is) clip.filled c.requires.named c.requires.good
    (all-shifts c.args.table.now (shift_at c.args.call.now c.clip.result) c.args.named.now.items c.requires.good c.requires.roomy
    (insert-put c.args.table.now c.args.call.now c.args.named.now.items c.index.result.now c.clip.result c.next_item-number.result own clip c.next_item-number.ensures c.clip.ensures))
    (subst (IsGood c.args.table.now) (sym c.index.ensures) (c.requires.good c.args.index c.index.result.now c.requires.within)).kept c.next_item-number.ensures c.clip.ensures
    ∙ ap (λ (place : ℕ). linked_shift (shift_at c.args.call.now c.clip.result) place (Item c.next_item-number.result) c.args.named.now.items) place))
    c.shift_linked.ensures.answers

pub returns-clause-good : goal.returns-clause-good
returns-clause-good g c =
    each-linked c.args.table.now (shift_at c.args.call.now c.clip.result) _ c.args.named.now.items c.shift_linked.new.named.items (Item c.next_item-number.result) c.shift_linked.result c.requires.good
    (each-stays c.args.table.now (shift_at c.args.call.now c.clip.result) c.args.named.now.items (omega arith) c.requires.good
    (insert-put c.args.table.now c.args.call.now c.args.named.now.items c.index.result.now c.clip.result c.next_item-number.result (is-own c.args.call.now.track c.args.call.now.tracks c.args.index c.args.named.now.items c.index.result.now c.requires.named c.requires.found (own-here c.args.named.now.items c.args.index c.index.result.now c.requires.within c.index.ensures)) (source-clip c.args.table.now c.args.call.now.track c.args.call.now.what c.args.call.now.from c.args.call.now.len (sym c.source_refusal.ensures.refusal ∙ c.in-None.is) (rw c.in-None.is at c.source_refusal.ensures.filled) (rw c.in-None.is at c.source_refusal.ensures.source)) c.next_item-number.ensures c.clip.ensures))
    c.shift_linked.ensures.answers

pub shift_linked-requires-clause-split : goal.shift_linked-requires-clause-split
shift_linked-requires-clause-split g c = may-split c.args.table.now c.args.named.now.items c.args.call.now.tracks c.requires.good c.requires.roomy c.requires.named

pub returns-in-Some-clause-answers : goal.returns-in-Some-clause-answers
returns-in-Some-clause-answers g c = (
  insert-refused c.args.table.now c.args.call.now c.args.named.now.items (get_or c.args.named.now.items c.args.index no_track) c.in-Some.refusal
      (is-own c.args.call.now.track c.args.call.now.tracks c.args.index c.args.named.now.items (get_or c.args.named.now.items c.args.index no_track) c.requires.named c.requires.found (own-there c.args.named.now.items c.args.index c.requires.within))
      (sym c.source_refusal.ensures.refusal ∙ c.in-Some.is),
  refl,
)

pub returns-in-Some-clause-good : goal.returns-in-Some-clause-good
returns-in-Some-clause-good g c = each-self c.args.table.now c.args.named.now.items c.requires.good

pub shift_linked-requires-clause-fits : goal.shift_linked-requires-clause-fits
shift_linked-requires-clause-fits g c =
    all-shifts c.args.table.now (shift_at c.args.call.now c.clip.result) c.args.named.now.items c.requires.good c.requires.roomy
    (insert-put c.args.table.now c.args.call.now c.args.named.now.items c.index.result.now c.clip.result c.next_item-number.result (is-own c.args.call.now.track c.args.call.now.tracks c.args.index c.args.named.now.items c.index.result.now c.requires.named c.requires.found (own-here c.args.named.now.items c.args.index c.index.result.now c.requires.within c.index.ensures)) (source-clip c.args.table.now c.args.call.now.track c.args.call.now.what c.args.call.now.from c.args.call.now.len (sym c.source_refusal.ensures.refusal ∙ c.in-None.is) (rw c.in-None.is at c.source_refusal.ensures.filled) (rw c.in-None.is at c.source_refusal.ensures.source)) c.next_item-number.ensures c.clip.ensures)
