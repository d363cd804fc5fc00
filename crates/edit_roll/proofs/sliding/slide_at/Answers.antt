use Rattle.std.proofs.Common.{List, refl, sym, ap, ◌∙◌}
use Rattle.composables.specs.TrackState.{TrackState}
use Rattle.edit_delta.proofs.Own.{is-named, named-answers, named-each}
use Rattle.edit_splice.specs.Standing.{StaysGood}
use Rattle.edit_splice.proofs.Standing.{each-self}
use Rattle.edit_roll.specs.Sliding.{links_refuse, slide_track}
use Rattle.edit_roll.proofs.LinkedSlides.{allowed-answers, refused-means}
use Rattle.link_groups.specs.LinkedItems.{item_of}
use Rattle.edit_roll.proofs.sliding.slide_at.Goals as goal

pub returns-in-Some-clause-answers : goal.returns-in-Some-clause-answers
returns-in-Some-clause-answers g c =
    let own = is-named c.args.call.now.track c.args.call.now.tracks c.args.index c.args.named.now.items c.index-track.result.now c.requires.named c.requires.found c.requires.within c.index-track.ensures in
    let t = c.index-track.result.now in (
      refused-means c.args.table.now c.args.call.now c.args.named.now.items t c.in-Some.refusal own.found
          (ap (λ (ts : List TrackState). links_refuse c.args.table.now ts c.args.call.now t (item_of t c.args.call.now.item)) (sym c.deref.ensures.value) ∙ (sym c.links_refuse.ensures.refusal ∙ c.in-Some.is)),
      refl,
    )

pub returns-in-Some-clause-good : goal.returns-in-Some-clause-good
returns-in-Some-clause-good g c = each-self c.args.table.now c.args.named.now.items c.requires.good

pub returns-in-None-clause-answers : goal.returns-in-None-clause-answers
returns-in-None-clause-answers g c =
    let own = is-named c.args.call.now.track c.args.call.now.tracks c.args.index c.args.named.now.items c.index-track.result.now c.requires.named c.requires.found c.requires.within c.index-track.ensures in
    let t = c.index-track.result.now in
    let mine = is-named c.args.call.now.track c.args.call.now.tracks c.args.index c.args.named.now.items c.index_mut.result.now c.requires.named c.requires.found c.requires.within c.index_mut.ensures.value in
    let s : StaysGood c.args.table.now c.index_mut.result.now c.slide_track.new.track = c.slide_track.ensures.good in
    allowed-answers c.args.table.now c.args.call.now c.args.named.now.items _ t c.slide_track.result own.found
    (ap (λ (ts : List TrackState). links_refuse c.args.table.now ts c.args.call.now t (item_of t c.args.call.now.item)) (sym c.deref.ensures.value) ∙ (sym c.links_refuse.ensures.refusal ∙ c.in-None.is))
    (named-answers c.args.call.now.track c.args.index (slide_track c.args.table.now c.args.call.now) c.args.named.now.items _ c.index_mut.result.now c.slide_track.new.track c.slide_track.result mine refl s.number c.slide_track.ensures.answers)

pub returns-in-None-clause-good : goal.returns-in-None-clause-good
returns-in-None-clause-good g c =
    let mine = is-named c.args.call.now.track c.args.call.now.tracks c.args.index c.args.named.now.items c.index_mut.result.now c.requires.named c.requires.found c.requires.within c.index_mut.ensures.value in
    let s : StaysGood c.args.table.now c.index_mut.result.now c.slide_track.new.track = c.slide_track.ensures.good in
    named-each c.args.table.now c.args.call.now.track c.args.index c.args.named.now.items _ c.index_mut.result.now c.slide_track.new.track mine refl c.requires.good s
