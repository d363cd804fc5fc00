use Rattle.std.proofs.Common.{sym, ◌∙◌, w32, SFits, rules}
use Rattle.composables.specs.declared.items.Place.{Place}
use Rattle.edit_roll.proofs.LinkedSlides.{is-there, no-gap, refuse-alone, refuse-broken, refuse-outside, refuse-unlinked}
use Rattle.edit_roll.proofs.linked_slides.found_link_refuses.Goals as goal

pub returns-in_default-clause-refusal : goal.returns-in_default-clause-refusal
returns-in_default-clause-refusal g c =
    let at : Place = record { index = c.args.found.index; from = c.args.found.from; to = c.args.found.to } in
    let there = is-there c.args.table.now c.args.track.now c.args.call.now.item at c.args.found.view c.requires.good c.requires.found c.requires.place c.requires.number c.requires.read in
    sym (refuse-unlinked c.args.table.now c.args.named.now c.args.call.now c.args.track.now at c.args.found.view there c.in_default.is)

pub returns-in-Some-outside_refusal-clause-refusal : goal.returns-in-Some-outside_refusal-clause-refusal
returns-in-Some-outside_refusal-clause-refusal g c =
    let at : Place = record { index = c.args.found.index; from = c.args.found.from; to = c.args.found.to } in
    let there = is-there c.args.table.now c.args.track.now c.args.call.now.item at c.args.found.view c.requires.good c.requires.found c.requires.place c.requires.number c.requires.read in
    sym (refuse-outside c.args.table.now c.args.named.now c.args.call.now c.args.track.now at c.args.found.view c.in-Some.link c.in-Some-outside_refusal.refusal there c.in-Some.is (sym c.outside_refusal.ensures ∙ c.in-Some-outside_refusal.is))

pub returns-then-not-carried_outside-clause-refusal : goal.returns-then-not-carried_outside-clause-refusal
returns-then-not-carried_outside-clause-refusal g c =
    let at : Place = record { index = c.args.found.index; from = c.args.found.from; to = c.args.found.to } in
    let there = is-there c.args.table.now c.args.track.now c.args.call.now.item at c.args.found.view c.requires.good c.requires.found c.requires.place c.requires.number c.requires.read in
    sym (refuse-alone c.args.table.now c.args.named.now c.args.call.now c.args.track.now at c.args.found.view c.in-Some.link there c.in-Some.is (sym c.outside_refusal.ensures ∙ c.in-None.is)
    (sym c.carried_outside.ensures.outside ∙ c.if-not-carried_outside.true))

pub unreachable-requires : goal.unreachable-requires
unreachable-requires g c =
    let at : Place = record { index = c.args.found.index; from = c.args.found.from; to = c.args.found.to } in
    let there = is-there c.args.table.now c.args.track.now c.args.call.now.item at c.args.found.view c.requires.good c.requires.found c.requires.place c.requires.number c.requires.read in
    no-gap c.args.table.now c.args.track.now c.args.call.now.item at c.args.found.view there c.in_default-first.is

pub returns-clause-refusal : goal.returns-clause-refusal
returns-clause-refusal g c =
    let at : Place = record { index = c.args.found.index; from = c.args.found.from; to = c.args.found.to } in
    let there = is-there c.args.table.now c.args.track.now c.args.call.now.item at c.args.found.view c.requires.good c.requires.found c.requires.place c.requires.number c.requires.read in
    let fits : SFits w32 c.args.call.now.by = search rules in
    sym (refuse-broken c.args.table.now c.args.named.now c.args.call.now c.args.track.now at c.args.found.view c.in-Some.link c.in-Pic.what c.in-Pic.source c.way_used-way.result c.broken_by.result fits there c.in-Some.is
    (sym c.outside_refusal.ensures ∙ c.in-None.is) (sym c.carried_outside.ensures.outside ∙ c.if-not-carried_outside.false) c.in-Pic.is c.way_used-way.ensures c.broken_by.ensures)
