use Rattle.std.proofs.Common.{refl, sym, ◌∙◌, w32, SFits, rules}
use Rattle.edit_delta.proofs.Own.{is-named, named-answers, named-each}
use Rattle.edit_splice.specs.Standing.{StaysGood}
use Rattle.edit_trim.specs.Slipping.{slip_track}
use Rattle.edit_trim.proofs.LinkedSlip.{alone-answers, linked-answers}
use Rattle.edit_trim.proofs.slipping.slip_at.Goals as goal

pub returns-in-Some-clause-answers : goal.returns-in-Some-clause-answers
returns-in-Some-clause-answers g c =
    let fits : SFits w32 c.args.call.now.by = search rules in
    let own = is-named c.args.call.now.track c.args.call.now.tracks c.args.index c.args.named.now.items c.index.result.now c.requires.named c.requires.found c.requires.within c.index.ensures in
    linked-answers c.args.table.now c.args.call.now c.args.named.now.items c.slip_linked.new.named.items c.index.result.now c.in-Some.link c.slip_linked.result fits own.found (sym c.item_with_link-found.ensures.link ∙ c.in-Some.is) c.slip_linked.ensures.answers

pub returns-in-None-clause-answers : goal.returns-in-None-clause-answers
returns-in-None-clause-answers g c =
    let own = is-named c.args.call.now.track c.args.call.now.tracks c.args.index c.args.named.now.items c.index.result.now c.requires.named c.requires.found c.requires.within c.index.ensures in
    let mine = is-named c.args.call.now.track c.args.call.now.tracks c.args.index c.args.named.now.items c.index_mut.result.now c.requires.named c.requires.found c.requires.within c.index_mut.ensures.value in
    let s : StaysGood c.args.table.now c.index_mut.result.now c.slip_track.new.track = c.slip_track.ensures.good in
    alone-answers c.args.table.now c.args.call.now c.args.named.now.items _ c.index.result.now c.slip_track.result own.found (sym c.item_with_link-found.ensures.link ∙ c.in-None.is)
    (named-answers c.args.call.now.track c.args.index (slip_track c.args.table.now c.args.call.now) c.args.named.now.items _ c.index_mut.result.now c.slip_track.new.track c.slip_track.result mine refl s.number c.slip_track.ensures.answers)

pub returns-in-None-clause-good : goal.returns-in-None-clause-good
returns-in-None-clause-good g c =
    let mine = is-named c.args.call.now.track c.args.call.now.tracks c.args.index c.args.named.now.items c.index_mut.result.now c.requires.named c.requires.found c.requires.within c.index_mut.ensures.value in
    let s : StaysGood c.args.table.now c.index_mut.result.now c.slip_track.new.track = c.slip_track.ensures.good in
    named-each c.args.table.now c.args.call.now.track c.args.index c.args.named.now.items _ c.index_mut.result.now c.slip_track.new.track mine refl c.requires.good s
