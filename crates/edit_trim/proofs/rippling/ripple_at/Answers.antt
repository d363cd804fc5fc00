use Rattle.std.proofs.Common.{ℕ, List, Result, sym, ap, ◌∙◌, subst}
use Rattle.composables.specs.declared.refusals.Done.{Done}
use Rattle.composables.specs.declared.refusals.Refusal.{Refusal}
use Rattle.out_of_memory.specs.Answers.{Answers}
use Rattle.composables.specs.TrackState.{TrackState}
use Rattle.edit_delta.proofs.Own.{is-named}
use Rattle.edit_delta.proofs.Spots.{spot-at}
use Rattle.link_groups.specs.LinkedShifts.{linked_shift}
use Rattle.link_groups.proofs.GoodShifts.{each-linked}
use Rattle.edit_splice.proofs.Standing.{each-self}
use Rattle.link_groups.proofs.Meant.{may-split}
use Rattle.edit_trim.specs.RipplingInside.{RipplesAmong}
use Rattle.edit_trim.proofs.RippleShift.{item-there, own-good, ready-at, ready-fits, ready-none, ready-order, ready-some, ready-stays, whole-at}
use Rattle.edit_trim.proofs.rippling.ripple_at.Goals as goal

pub returns-in_default-clause-good : goal.returns-in_default-clause-good
returns-in_default-clause-good g c = each-self c.args.table.now c.args.named.now.items c.requires.good

pub unreachable-requires : goal.unreachable-requires
unreachable-requires g c = item-there c.index-track.result.now c.in-Some.found c.in-Some.ensures.found (sym c.item.ensures ∙ c.in_default-item.is)

pub rippled_among-rippled-requires-clause-whole : goal.rippled_among-rippled-requires-clause-whole
rippled_among-rippled-requires-clause-whole g c =
    let own = is-named c.args.call.now.track c.args.call.now.tracks c.args.index c.args.named.now.items c.index-track.result.now c.requires.named c.requires.found c.requires.within c.index-track.ensures in
    whole-at c.args.table.now c.index-track.result.now c.in-Some.found c.in-Some-item.view (own-good c.args.table.now c.args.named.now.items c.args.index c.index-track.result.now c.args.call.now own c.requires.good) c.in-Some.ensures.found
    (sym c.item.ensures ∙ c.in-Some-item.is)

pub rippled_among-rippled-requires-clause-long : goal.rippled_among-rippled-requires-clause-long
rippled_among-rippled-requires-clause-long g c =
    let own = is-named c.args.call.now.track c.args.call.now.tracks c.args.index c.args.named.now.items c.index-track.result.now c.requires.named c.requires.found c.requires.within c.index-track.ensures in
    (spot-at c.args.table.now c.index-track.result.now c.in-Some.found c.in-Some-item.view (own-good c.args.table.now c.args.named.now.items c.args.index c.index-track.result.now c.args.call.now own c.requires.good) c.in-Some.ensures.found
    (sym c.item.ensures ∙ c.in-Some-item.is)).long

pub shift_linked-requires-clause-order : goal.shift_linked-requires-clause-order
shift_linked-requires-clause-order g c =
    let k = ready-at c.args.table.now c.args.named.now.items c.args.index c.index-track.result.now c.in-Some-item.view c.args.call.now c.in-Some.found c.rippled_among-rippled.result c.item_by_id.result c.requires.good
    (is-named c.args.call.now.track c.args.call.now.tracks c.args.index c.args.named.now.items c.index-track.result.now c.requires.named c.requires.found c.requires.within c.index-track.ensures)
    c.in-Some.ensures.found (sym c.item.ensures ∙ c.in-Some-item.is) c.item_by_id.ensures.range c.in-Some.is
    (subst (λ (ts : List TrackState). RipplesAmong c.args.table.now ts c.args.call.now c.in-Some.found c.in-Some-item.view c.rippled_among-rippled.result) c.deref.ensures.value c.rippled_among-rippled.ensures) in
    ready-order c.args.table.now c.args.named.now.items c.args.index c.index-track.result.now c.in-Some-item.view c.args.call.now c.in-Some.found c.rippled_among-rippled.result c.in-Some-shift.shift k c.in-Some-shift.is

pub shift_linked-requires-clause-fits : goal.shift_linked-requires-clause-fits
shift_linked-requires-clause-fits g c =
    let k = ready-at c.args.table.now c.args.named.now.items c.args.index c.index-track.result.now c.in-Some-item.view c.args.call.now c.in-Some.found c.rippled_among-rippled.result c.item_by_id.result c.requires.good
    (is-named c.args.call.now.track c.args.call.now.tracks c.args.index c.args.named.now.items c.index-track.result.now c.requires.named c.requires.found c.requires.within c.index-track.ensures)
    c.in-Some.ensures.found (sym c.item.ensures ∙ c.in-Some-item.is) c.item_by_id.ensures.range c.in-Some.is
    (subst (λ (ts : List TrackState). RipplesAmong c.args.table.now ts c.args.call.now c.in-Some.found c.in-Some-item.view c.rippled_among-rippled.result) c.deref.ensures.value c.rippled_among-rippled.ensures) in
    ready-fits c.args.table.now c.args.named.now.items c.args.index c.index-track.result.now c.in-Some-item.view c.args.call.now c.in-Some.found c.rippled_among-rippled.result c.in-Some-shift.shift k c.requires.roomy c.in-Some-shift.is

pub returns-in-Some-shift-clause-answers : goal.returns-in-Some-shift-clause-answers
returns-in-Some-shift-clause-answers g c =
    let k = ready-at c.args.table.now c.args.named.now.items c.args.index c.index-track.result.now c.in-Some-item.view c.args.call.now c.in-Some.found c.rippled_among-rippled.result c.item_by_id.result c.requires.good
    (is-named c.args.call.now.track c.args.call.now.tracks c.args.index c.args.named.now.items c.index-track.result.now c.requires.named c.requires.found c.requires.within c.index-track.ensures)
    c.in-Some.ensures.found (sym c.item.ensures ∙ c.in-Some-item.is) c.item_by_id.ensures.range c.in-Some.is
    (subst (λ (ts : List TrackState). RipplesAmong c.args.table.now ts c.args.call.now c.in-Some.found c.in-Some-item.view c.rippled_among-rippled.result) c.deref.ensures.value c.rippled_among-rippled.ensures) in
    subst (λ (m : Result (List TrackState × Done) Refusal). Answers m c.args.named.now.items c.shift_linked.new.named.items c.shift_linked.result)
    (sym (ready-some c.args.table.now c.args.named.now.items c.args.index c.index-track.result.now c.in-Some-item.view c.args.call.now c.in-Some.found c.rippled_among-rippled.result c.in-Some-shift.shift k c.requires.roomy c.in-Some-shift.is ∙ ap (λ (place : ℕ). linked_shift c.in-Some-shift.shift place c.rippled_among-rippled.result.done c.args.named.now.items) (sym c.place_after-place.ensures))) c.shift_linked.ensures.answers

pub returns-in-Some-shift-clause-good : goal.returns-in-Some-shift-clause-good
returns-in-Some-shift-clause-good g c =
    let k = ready-at c.args.table.now c.args.named.now.items c.args.index c.index-track.result.now c.in-Some-item.view c.args.call.now c.in-Some.found c.rippled_among-rippled.result c.item_by_id.result c.requires.good
    (is-named c.args.call.now.track c.args.call.now.tracks c.args.index c.args.named.now.items c.index-track.result.now c.requires.named c.requires.found c.requires.within c.index-track.ensures)
    c.in-Some.ensures.found (sym c.item.ensures ∙ c.in-Some-item.is) c.item_by_id.ensures.range c.in-Some.is
    (subst (λ (ts : List TrackState). RipplesAmong c.args.table.now ts c.args.call.now c.in-Some.found c.in-Some-item.view c.rippled_among-rippled.result) c.deref.ensures.value c.rippled_among-rippled.ensures) in
    each-linked c.args.table.now c.in-Some-shift.shift _ c.args.named.now.items c.shift_linked.new.named.items c.rippled_among-rippled.result.done c.shift_linked.result c.requires.good
    (ready-stays c.args.table.now c.args.named.now.items c.args.index c.index-track.result.now c.in-Some-item.view c.args.call.now c.in-Some.found c.rippled_among-rippled.result c.in-Some-shift.shift k c.in-Some-shift.is) c.shift_linked.ensures.answers

pub returns-in-None-clause-answers : goal.returns-in-None-clause-answers
returns-in-None-clause-answers g c =
    let k = ready-at c.args.table.now c.args.named.now.items c.args.index c.index-track.result.now c.in-Some-item.view c.args.call.now c.in-Some.found c.rippled_among-rippled.result c.item_by_id.result c.requires.good
    (is-named c.args.call.now.track c.args.call.now.tracks c.args.index c.args.named.now.items c.index-track.result.now c.requires.named c.requires.found c.requires.within c.index-track.ensures)
    c.in-Some.ensures.found (sym c.item.ensures ∙ c.in-Some-item.is) c.item_by_id.ensures.range c.in-Some.is
    (subst (λ (ts : List TrackState). RipplesAmong c.args.table.now ts c.args.call.now c.in-Some.found c.in-Some-item.view c.rippled_among-rippled.result) c.deref.ensures.value c.rippled_among-rippled.ensures) in
    ready-none c.args.table.now c.args.named.now.items c.args.index c.index-track.result.now c.in-Some-item.view c.args.call.now c.in-Some.found c.rippled_among-rippled.result k c.in-None.is

pub returns-in-None-clause-good : goal.returns-in-None-clause-good
returns-in-None-clause-good g c = each-self c.args.table.now c.args.named.now.items c.requires.good

pub shift_linked-requires-clause-split : goal.shift_linked-requires-clause-split
shift_linked-requires-clause-split g c = may-split c.args.table.now c.args.named.now.items c.args.call.now.tracks c.requires.good c.requires.roomy c.requires.named
