use Rattle.std.proofs.Common.{◌≡◌, ℕ, ◌+◌, List, Result, refl, sym, ap, ◌∙◌, arith, subst}
use Rattle.link_groups.specs.LinkedShifts.{linked_shift}
use Rattle.composables.specs.declared.refusals.Done.{Done}
use Rattle.composables.specs.declared.refusals.Done.TheVariants.{Plain}
use Rattle.composables.specs.declared.refusals.Refusal.{Refusal}
use Rattle.composables.specs.Good.{IsGood}
use Rattle.composables.specs.TrackState.{TrackState}
use Rattle.out_of_memory.specs.Answers.{Answers}
use Rattle.edit_insert.proofs.Inserts.{each-stays}
use Rattle.edit_insert.proofs.Inserts.{all-shifts, extract-found, extract-missing, extract-put, is-own, own-here, shift_out}
use Rattle.edit_splice.proofs.Places.{place-order}
use Rattle.link_groups.proofs.GoodShifts.{each-linked}
use Rattle.edit_splice.proofs.Standing.{each-self}
use Rattle.link_groups.proofs.Meant.{may-split}
use Rattle.edit_insert.proofs.inserting.extract_at.Goals as goal

pub returns-in-Some-clause-answers : goal.returns-in-Some-clause-answers
returns-in-Some-clause-answers g c =
    let place : c.in-Some.found.from + 0 ≡ c.from-place.result = omega (arith, c.from-place.ensures) in
    subst (λ (m : Result (List TrackState × Done) Refusal). Answers m c.args.named.now.items c.shift_linked.new.named.items c.shift_linked.result)
    (sym (extract-found c.args.table.now c.args.call.now c.args.named.now.items c.index.result.now c.in-Some.found.from c.in-Some.found.to (is-own c.args.call.now.track c.args.call.now.tracks c.args.index c.args.named.now.items c.index.result.now c.requires.named c.requires.found (own-here c.args.named.now.items c.args.index c.index.result.now c.requires.within c.index.ensures)) (c.in-Some.ensures.range) c.requires.good (all-shifts c.args.table.now (shift_out c.args.call.now c.in-Some.found.from c.in-Some.found.to) c.args.named.now.items c.requires.good c.requires.roomy (extract-put c.args.table.now c.args.call.now c.args.named.now.items c.in-Some.found.from c.in-Some.found.to)) (subst (IsGood c.args.table.now) (sym c.index.ensures) (c.requires.good c.args.index c.index.result.now c.requires.within)).kept
    ∙ ap (λ (place : ℕ). linked_shift (shift_out c.args.call.now c.in-Some.found.from c.in-Some.found.to) place Plain c.args.named.now.items) place))
    c.shift_linked.ensures.answers

pub shift_linked-requires-clause-order : goal.shift_linked-requires-clause-order
shift_linked-requires-clause-order g c = place-order c.index.result.now c.in-Some.found c.in-Some.ensures.found

pub returns-in-Some-clause-good : goal.returns-in-Some-clause-good
returns-in-Some-clause-good g c =
    each-linked c.args.table.now (shift_out c.args.call.now c.in-Some.found.from c.in-Some.found.to) _ c.args.named.now.items c.shift_linked.new.named.items Plain c.shift_linked.result
    c.requires.good
    (each-stays c.args.table.now (shift_out c.args.call.now c.in-Some.found.from c.in-Some.found.to) c.args.named.now.items (place-order c.index.result.now c.in-Some.found c.in-Some.ensures.found) c.requires.good
    (extract-put c.args.table.now c.args.call.now c.args.named.now.items c.in-Some.found.from c.in-Some.found.to)) c.shift_linked.ensures.answers

pub shift_linked-requires-clause-split : goal.shift_linked-requires-clause-split
shift_linked-requires-clause-split g c = may-split c.args.table.now c.args.named.now.items c.args.call.now.tracks c.requires.good c.requires.roomy c.requires.named

pub returns-in-None-clause-answers : goal.returns-in-None-clause-answers
returns-in-None-clause-answers g c = (extract-missing c.args.call.now c.args.named.now.items c.index.result.now (is-own c.args.call.now.track c.args.call.now.tracks c.args.index c.args.named.now.items c.index.result.now c.requires.named c.requires.found (own-here c.args.named.now.items c.args.index c.index.result.now c.requires.within c.index.ensures)) c.in-None.ensures.range, refl)

pub returns-in-None-clause-good : goal.returns-in-None-clause-good
returns-in-None-clause-good g c = each-self c.args.table.now c.args.named.now.items c.requires.good

pub shift_linked-requires-clause-fits : goal.shift_linked-requires-clause-fits
shift_linked-requires-clause-fits g c =
    all-shifts c.args.table.now (shift_out c.args.call.now c.in-Some.found.from c.in-Some.found.to) c.args.named.now.items c.requires.good c.requires.roomy
    (extract-put c.args.table.now c.args.call.now c.args.named.now.items c.in-Some.found.from c.in-Some.found.to)
