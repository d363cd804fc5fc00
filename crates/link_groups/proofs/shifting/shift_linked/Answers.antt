use Rattle.std.proofs.Common.{◌≡◌, ◌-◌, false, eqb, None, Some, List, ap, is_ok, refl, sym, ◌∙◌, arith, subst}
use Rattle.std.proofs.lemmas.Bool.{ne_eqb}
use Rattle.composables.specs.Limits.{over_limits}
use Rattle.composables.specs.Links.{split_links}
use Rattle.composables.specs.Sizes.{sizes_of}
use Rattle.composables.specs.TrackState.{TrackState}
use Rattle.out_of_memory.proofs.Answered.{answers-memory}
use Rattle.edit_splice.specs.Moves.{all_moved}
use Rattle.edit_splice.specs.Padding.{new_len}
use Rattle.link_groups.specs.LinkedShifts.{linked_refusal, linked_shift}
use Rattle.link_groups.specs.Splits.{AreSplits}
use Rattle.link_groups.proofs.LinkedShifts.{linked-done, linked-over, linked-within, next-fits, not-refused, over-is, sizes-done}
use Rattle.link_groups.proofs.shifting.shift_linked.Goals as goal

pub returns-in-Some-over_limits-clause-answers : goal.returns-in-Some-over_limits-clause-answers
returns-in-Some-over_limits-clause-answers g c =
    let moves : eqb (new_len c.args.shift.now.new) (c.args.shift.now.y - c.args.shift.now.x) ≡ false = ne_eqb (new_len c.args.shift.now.new) (c.args.shift.now.y - c.args.shift.now.x) (λ e. c.if-new_len-shift.false (c.new_len.ensures ∙ e)) in
    let none : linked_refusal c.args.shift.now c.args.named.now.items ≡ None = not-refused c.args.shift.now c.args.named.now.items c.deref.result.now c.check_moved.result moves c.check_moved.ensures.refusal c.deref.ensures.value c.in-None.is in
    let over : over_limits (all_moved c.args.shift.now c.args.named.now.items) ≡ Some c.in-Some-over_limits.refusal = over-is c.args.shift.now c.args.named.now.items c.deref-2.result.now (Some c.in-Some-over_limits.refusal) c.deref-2.ensures.value c.in-Some-over_limits.ensures.refusal in
    (linked-over c.args.shift.now c.args.place c.args.done c.args.named.now.items c.in-Some-over_limits.refusal none over, refl)

pub returns-in_err-splits-clause-answers : goal.returns-in_err-splits-clause-answers
returns-in_err-splits-clause-answers g c =
    let moves : eqb (new_len c.args.shift.now.new) (c.args.shift.now.y - c.args.shift.now.x) ≡ false = ne_eqb (new_len c.args.shift.now.new) (c.args.shift.now.y - c.args.shift.now.x) (λ e. c.if-new_len-shift.false (c.new_len.ensures ∙ e)) in
    let none : linked_refusal c.args.shift.now c.args.named.now.items ≡ None = not-refused c.args.shift.now c.args.named.now.items c.deref.result.now c.check_moved.result moves c.check_moved.ensures.refusal c.deref.ensures.value c.in-None.is in
    let within : over_limits (all_moved c.args.shift.now c.args.named.now.items) ≡ None = over-is c.args.shift.now c.args.named.now.items c.deref-2.result.now None c.deref-2.ensures.value c.in-None-over_limits.ensures.refusal in
    answers-memory (linked_shift c.args.shift.now c.args.place c.args.done c.args.named.now.items) c.args.named.now.items c.args.named.now.items c.from_residual.result c.from_residual.ensures.1
    (ap is_ok (linked-within c.args.shift.now c.args.place c.args.done c.args.named.now.items none within)) refl

pub shifted-requires-clause-within : goal.shifted-requires-clause-within
shifted-requires-clause-within g c =
    subst (λ (ts : List TrackState). over_limits (all_moved c.args.shift.now ts) ≡ None) (sym c.deref-4.ensures.value)
    (over-is c.args.shift.now c.args.named.now.items c.deref-2.result.now None c.deref-2.ensures.value c.in-None-over_limits.ensures.refusal)

pub returns-in_err-moved-clause-answers : goal.returns-in_err-moved-clause-answers
returns-in_err-moved-clause-answers g c =
    let moves : eqb (new_len c.args.shift.now.new) (c.args.shift.now.y - c.args.shift.now.x) ≡ false = ne_eqb (new_len c.args.shift.now.new) (c.args.shift.now.y - c.args.shift.now.x) (λ e. c.if-new_len-shift.false (c.new_len.ensures ∙ e)) in
    let none : linked_refusal c.args.shift.now c.args.named.now.items ≡ None = not-refused c.args.shift.now c.args.named.now.items c.deref.result.now c.check_moved.result moves c.check_moved.ensures.refusal c.deref.ensures.value c.in-None.is in
    let within : over_limits (all_moved c.args.shift.now c.args.named.now.items) ≡ None = over-is c.args.shift.now c.args.named.now.items c.deref-2.result.now None c.deref-2.ensures.value c.in-None-over_limits.ensures.refusal in
    answers-memory (linked_shift c.args.shift.now c.args.place c.args.done c.args.named.now.items) c.args.named.now.items c.args.named.now.items c.from_residual-in_err-moved.result c.from_residual-in_err-moved.ensures.1
    (ap is_ok (linked-within c.args.shift.now c.args.place c.args.done c.args.named.now.items none within)) refl

pub relink_all-requires : goal.relink_all-requires
relink_all-requires g c =
    let moved : c.in_ok-moved.moved.items ≡ all_moved c.args.shift.now c.args.named.now.items = c.in_ok-moved.ensures.moved ∙ ap (all_moved c.args.shift.now) c.deref-4.ensures.value in
    record { next = next-fits c.args.shift.now c.args.named.now.items c.in_ok-moved.moved.items c.in_ok-splits.splits c.requires.split.next c.in_ok-splits.ensures.few moved; marked = c.in_ok-splits.ensures.marked }

pub returns-in_err-relink_all-clause-answers : goal.returns-in_err-relink_all-clause-answers
returns-in_err-relink_all-clause-answers g c =
    let moves : eqb (new_len c.args.shift.now.new) (c.args.shift.now.y - c.args.shift.now.x) ≡ false = ne_eqb (new_len c.args.shift.now.new) (c.args.shift.now.y - c.args.shift.now.x) (λ e. c.if-new_len-shift.false (c.new_len.ensures ∙ e)) in
    let none : linked_refusal c.args.shift.now c.args.named.now.items ≡ None = not-refused c.args.shift.now c.args.named.now.items c.deref.result.now c.check_moved.result moves c.check_moved.ensures.refusal c.deref.ensures.value c.in-None.is in
    let within : over_limits (all_moved c.args.shift.now c.args.named.now.items) ≡ None = over-is c.args.shift.now c.args.named.now.items c.deref-2.result.now None c.deref-2.ensures.value c.in-None-over_limits.ensures.refusal in
    answers-memory (linked_shift c.args.shift.now c.args.place c.args.done c.args.named.now.items) c.args.named.now.items c.args.named.now.items c.from_residual-in_err-relink_all.result c.from_residual-in_err-relink_all.ensures.1
    (ap is_ok (linked-within c.args.shift.now c.args.place c.args.done c.args.named.now.items none within)) refl

pub returns-in_err-relink_all-clause-most : goal.returns-in_err-relink_all-clause-most
returns-in_err-relink_all-clause-most g c =
    let moved : c.in_ok-moved.moved.items ≡ all_moved c.args.shift.now c.args.named.now.items = c.in_ok-moved.ensures.moved ∙ ap (all_moved c.args.shift.now) c.deref-4.ensures.value in
    omega (
      arith,
      c.check_moved.ensures.most,
      c.over_limits.ensures.most,
      c.splits_shifted.ensures.most,
      c.shifted.ensures.most,
      c.relink_all.ensures.most,
      ap sizes_of c.deref.ensures.value,
      ap sizes_of c.deref-2.ensures.value,
      ap sizes_of c.deref-3.ensures.value,
      ap sizes_of c.deref-4.ensures.value,
      sizes-done c.args.shift.now c.args.named.now.items c.in_ok-moved.moved.items c.requires.order moved,
    )

pub returns-clause-answers : goal.returns-clause-answers
returns-clause-answers g c =
    let moves : eqb (new_len c.args.shift.now.new) (c.args.shift.now.y - c.args.shift.now.x) ≡ false = ne_eqb (new_len c.args.shift.now.new) (c.args.shift.now.y - c.args.shift.now.x) (λ e. c.if-new_len-shift.false (c.new_len.ensures ∙ e)) in
    let none : linked_refusal c.args.shift.now c.args.named.now.items ≡ None = not-refused c.args.shift.now c.args.named.now.items c.deref.result.now c.check_moved.result moves c.check_moved.ensures.refusal c.deref.ensures.value c.in-None.is in
    let within : over_limits (all_moved c.args.shift.now c.args.named.now.items) ≡ None = over-is c.args.shift.now c.args.named.now.items c.deref-2.result.now None c.deref-2.ensures.value c.in-None-over_limits.ensures.refusal in
    let splits : AreSplits c.args.named.now.items (split_links c.args.shift.now.x c.args.shift.now.y c.args.named.now.items) c.in_ok-splits.splits =
    subst (λ (ts : List TrackState). AreSplits ts (split_links c.args.shift.now.x c.args.shift.now.y ts) c.in_ok-splits.splits) c.deref-3.ensures.value c.in_ok-splits.ensures.splits in
    let moved : c.in_ok-moved.moved.items ≡ all_moved c.args.shift.now c.args.named.now.items = c.in_ok-moved.ensures.moved ∙ ap (all_moved c.args.shift.now) c.deref-4.ensures.value in
    linked-done c.args.shift.now c.args.place c.args.done c.args.named.now.items c.in_ok-moved.moved.items c.relink_all.new.named.items c.in_ok-splits.splits moves none within splits
    moved c.in_ok-relink_all.ensures.relinked

pub returns-clause-most : goal.returns-clause-most
returns-clause-most g c =
    let moved : c.in_ok-moved.moved.items ≡ all_moved c.args.shift.now c.args.named.now.items = c.in_ok-moved.ensures.moved ∙ ap (all_moved c.args.shift.now) c.deref-4.ensures.value in
    omega (
      arith,
      c.check_moved.ensures.most,
      c.over_limits.ensures.most,
      c.splits_shifted.ensures.most,
      c.shifted.ensures.most,
      c.relink_all.ensures.most,
      ap sizes_of c.deref.ensures.value,
      ap sizes_of c.deref-2.ensures.value,
      ap sizes_of c.deref-3.ensures.value,
      ap sizes_of c.deref-4.ensures.value,
      sizes-done c.args.shift.now c.args.named.now.items c.in_ok-moved.moved.items c.requires.order moved,
    )
