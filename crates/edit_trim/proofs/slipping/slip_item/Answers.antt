use Rattle.std.proofs.Common.{◌+◌, ◌-◌, ap, is_ok, refl, sym, ◌∙◌, arith, subst}
use Rattle.edit_delta.proofs.Answered.{earlier-most, later-most}
use Rattle.edit_delta.proofs.Spots.{spot-at}
use Rattle.edit_splice.specs.Standing.{StaysGood}
use Rattle.composables.specs.Changes.{changed_track, with_source}
use Rattle.out_of_memory.proofs.Answered.{answers-memory}
use Rattle.edit_trim.specs.Slipping.{mark_of, slip_range}
use Rattle.edit_trim.proofs.Slips.{Reaches, sourced-good, sourced-stays}
use Rattle.edit_trim.proofs.Slipped.{earlier-fits, later-fits, lies-head, lies-tail, ready, slip-earlier, slip-later, slip-still, slip-used, source-tail}
use Rattle.edit_trim.proofs.slipping.slip_item.Goals as goal

pub room_earlier-requires : goal.room_earlier-requires
room_earlier-requires c =
    let r = ready c.args.table.now c.args.track.now c.args.found c.args.view.now c.args.source c.mark_of-tail.result c.requires.good c.requires.place c.requires.view c.requires.source (c.mark_of-tail.ensures ∙ ap mark_of c.item.ensures) in
    record { lies = lies-head c.args.table.now c.args.track.now c.args.found c.args.view.now c.args.source c.mark_of-tail.result r }

pub room_later-requires-clause-filled : goal.room_later-requires-clause-filled
room_later-requires-clause-filled c =
    (spot-at c.args.table.now c.args.track.now c.args.found c.args.view.now c.requires.good c.requires.place c.requires.view).filled

pub room_later-requires-clause-lies : goal.room_later-requires-clause-lies
room_later-requires-clause-lies c =
    let r = ready c.args.table.now c.args.track.now c.args.found c.args.view.now c.args.source c.mark_of-tail.result c.requires.good c.requires.place c.requires.view c.requires.source (c.mark_of-tail.ensures ∙ ap mark_of c.item.ensures) in
    lies-tail c.args.table.now c.args.track.now c.args.found c.args.view.now c.args.source c.mark_of-tail.result r

pub room_later-requires-clause-source : goal.room_later-requires-clause-source
room_later-requires-clause-source c =
    let r = ready c.args.table.now c.args.track.now c.args.found c.args.view.now c.args.source c.mark_of-tail.result c.requires.good c.requires.place c.requires.view c.requires.source (c.mark_of-tail.ensures ∙ ap mark_of c.item.ensures) in
    source-tail c.args.table.now c.args.track.now c.args.found c.args.view.now c.args.source c.mark_of-tail.result r

pub overflow_add-source : goal.overflow_add-source
overflow_add-source c =
    let r = ready c.args.table.now c.args.track.now c.args.found c.args.view.now c.args.source c.mark_of-tail.result c.requires.good c.requires.place c.requires.view c.requires.source (c.mark_of-tail.ensures ∙ ap mark_of c.item.ensures) in
    let n = later-most c.room_earlier.result c.room_later.result c.in-Later.frames c.args.by c.used_within-used.result c.used_within-used.ensures c.in-Later.is in
    let f = later-fits c.args.table.now c.args.track.now c.args.found c.args.view.now c.args.source c.mark_of-tail.result c.room_later.result c.in-Later.frames r c.room_later.ensures.reach c.room_later.ensures.numbered c.room_later.type_inv n.1 in
    omega (arith, f.small)

pub set_source-requires-clause-kept : goal.set_source-requires-clause-kept
set_source-requires-clause-kept c =
    let r = ready c.args.table.now c.args.track.now c.args.found c.args.view.now c.args.source c.mark_of-tail.result c.requires.good c.requires.place c.requires.view c.requires.source (c.mark_of-tail.ensures ∙ ap mark_of c.item.ensures) in
    let n = later-most c.room_earlier.result c.room_later.result c.in-Later.frames c.args.by c.used_within-used.result c.used_within-used.ensures c.in-Later.is in
    let f = later-fits c.args.table.now c.args.track.now c.args.found c.args.view.now c.args.source c.mark_of-tail.result c.room_later.result c.in-Later.frames r c.room_later.ensures.reach c.room_later.ensures.numbered c.room_later.type_inv n.1 in
    (sourced-good c.args.table.now c.args.track.now c.args.found.index (c.args.source + c.in-Later.frames) c.args.view.now c.requires.good c.requires.view (subst (Reaches c.args.table.now c.args.view.now (c.args.source + c.in-Later.frames)) r.tail_is f.reaches)).kept

pub overflow_sub-source : goal.overflow_sub-source
overflow_sub-source c =
    let r = ready c.args.table.now c.args.track.now c.args.found c.args.view.now c.args.source c.mark_of-tail.result c.requires.good c.requires.place c.requires.view c.requires.source (c.mark_of-tail.ensures ∙ ap mark_of c.item.ensures) in
    let n = earlier-most c.room_earlier.result c.room_later.result c.in-Earlier.frames c.args.by c.used_within-used.result c.used_within-used.ensures c.in-Earlier.is in
    let f = earlier-fits c.args.table.now c.args.track.now c.args.found c.args.view.now c.args.source c.mark_of-tail.result c.room_earlier.result c.in-Earlier.frames r c.room_earlier.ensures c.room_earlier.type_inv n.1 in
    f.1

pub set_source-requires-in-Earlier-clause-kept : goal.set_source-requires-in-Earlier-clause-kept
set_source-requires-in-Earlier-clause-kept c =
    let r = ready c.args.table.now c.args.track.now c.args.found c.args.view.now c.args.source c.mark_of-tail.result c.requires.good c.requires.place c.requires.view c.requires.source (c.mark_of-tail.ensures ∙ ap mark_of c.item.ensures) in
    let n = earlier-most c.room_earlier.result c.room_later.result c.in-Earlier.frames c.args.by c.used_within-used.result c.used_within-used.ensures c.in-Earlier.is in
    let f = earlier-fits c.args.table.now c.args.track.now c.args.found c.args.view.now c.args.source c.mark_of-tail.result c.room_earlier.result c.in-Earlier.frames r c.room_earlier.ensures c.room_earlier.type_inv n.1 in
    (sourced-good c.args.table.now c.args.track.now c.args.found.index (c.args.source - c.in-Earlier.frames) c.args.view.now c.requires.good c.requires.view (subst (Reaches c.args.table.now c.args.view.now (c.args.source - c.in-Earlier.frames)) r.tail_is f.0.reaches)).kept

pub returns-in-Still-clause-answers : goal.returns-in-Still-clause-answers
returns-in-Still-clause-answers c =
    let r = ready c.args.table.now c.args.track.now c.args.found c.args.view.now c.args.source c.mark_of-tail.result c.requires.good c.requires.place c.requires.view c.requires.source (c.mark_of-tail.ensures ∙ ap mark_of c.item.ensures) in
    slip-still c.args.table.now c.args.track.now c.args.found c.args.by c.used_within-used.result (slip-used c.args.table.now c.args.track.now c.args.found c.args.view.now c.args.source c.mark_of-tail.result c.room_earlier.result c.room_later.result c.args.by c.used_within-used.result r c.ranges.by c.room_earlier.ensures c.room_later.ensures.reach c.used_within-used.ensures) c.in-Still.is

pub returns-in_ok-set_source-in-Later-clause-answers : goal.returns-in_ok-set_source-in-Later-clause-answers
returns-in_ok-set_source-in-Later-clause-answers c =
    let r = ready c.args.table.now c.args.track.now c.args.found c.args.view.now c.args.source c.mark_of-tail.result c.requires.good c.requires.place c.requires.view c.requires.source (c.mark_of-tail.ensures ∙ ap mark_of c.item.ensures) in
    let n = later-most c.room_earlier.result c.room_later.result c.in-Later.frames c.args.by c.used_within-used.result c.used_within-used.ensures c.in-Later.is in
    let f = later-fits c.args.table.now c.args.track.now c.args.found c.args.view.now c.args.source c.mark_of-tail.result c.room_later.result c.in-Later.frames r c.room_later.ensures.reach c.room_later.ensures.numbered c.room_later.type_inv n.1 in
    slip-later c.args.table.now c.args.track.now c.set_source.new.self c.args.found c.args.view.now c.args.source c.in-Later.frames c.mark_of-tail.result c.args.by c.used_within-used.result c.requires.good r (slip-used c.args.table.now c.args.track.now c.args.found c.args.view.now c.args.source c.mark_of-tail.result c.room_earlier.result c.room_later.result c.args.by c.used_within-used.result r c.ranges.by c.room_earlier.ensures c.room_later.ensures.reach c.used_within-used.ensures) c.in-Later.is f c.in_ok-set_source-in-Later.ensures.ok

pub returns-in_ok-set_source-in-Earlier-clause-answers : goal.returns-in_ok-set_source-in-Earlier-clause-answers
returns-in_ok-set_source-in-Earlier-clause-answers c =
    let r = ready c.args.table.now c.args.track.now c.args.found c.args.view.now c.args.source c.mark_of-tail.result c.requires.good c.requires.place c.requires.view c.requires.source (c.mark_of-tail.ensures ∙ ap mark_of c.item.ensures) in
    let n = earlier-most c.room_earlier.result c.room_later.result c.in-Earlier.frames c.args.by c.used_within-used.result c.used_within-used.ensures c.in-Earlier.is in
    let f = earlier-fits c.args.table.now c.args.track.now c.args.found c.args.view.now c.args.source c.mark_of-tail.result c.room_earlier.result c.in-Earlier.frames r c.room_earlier.ensures c.room_earlier.type_inv n.1 in
    slip-earlier c.args.table.now c.args.track.now c.set_source-in-Earlier.new.self c.args.found c.args.view.now c.args.source c.in-Earlier.frames c.mark_of-tail.result c.args.by c.used_within-used.result c.requires.good r (slip-used c.args.table.now c.args.track.now c.args.found c.args.view.now c.args.source c.mark_of-tail.result c.room_earlier.result c.room_later.result c.args.by c.used_within-used.result r c.ranges.by c.room_earlier.ensures c.room_later.ensures.reach c.used_within-used.ensures) c.in-Earlier.is f c.in_ok-set_source-in-Earlier.ensures.ok

pub returns-in_ok-set_source-in-Later-clause-good : goal.returns-in_ok-set_source-in-Later-clause-good
returns-in_ok-set_source-in-Later-clause-good c =
    let r = ready c.args.table.now c.args.track.now c.args.found c.args.view.now c.args.source c.mark_of-tail.result c.requires.good c.requires.place c.requires.view c.requires.source (c.mark_of-tail.ensures ∙ ap mark_of c.item.ensures) in
    let n = later-most c.room_earlier.result c.room_later.result c.in-Later.frames c.args.by c.used_within-used.result c.used_within-used.ensures c.in-Later.is in
    let f = later-fits c.args.table.now c.args.track.now c.args.found c.args.view.now c.args.source c.mark_of-tail.result c.room_later.result c.in-Later.frames r c.room_later.ensures.reach c.room_later.ensures.numbered c.room_later.type_inv n.1 in
    subst (StaysGood c.args.table.now c.args.track.now) (sym c.in_ok-set_source-in-Later.ensures.ok)
    (sourced-stays c.args.table.now c.args.track.now c.args.found.index (c.args.source + c.in-Later.frames) c.args.view.now c.requires.good c.requires.view (subst (Reaches c.args.table.now c.args.view.now (c.args.source + c.in-Later.frames)) r.tail_is f.reaches))

pub returns-in_ok-set_source-in-Earlier-clause-good : goal.returns-in_ok-set_source-in-Earlier-clause-good
returns-in_ok-set_source-in-Earlier-clause-good c =
    let r = ready c.args.table.now c.args.track.now c.args.found c.args.view.now c.args.source c.mark_of-tail.result c.requires.good c.requires.place c.requires.view c.requires.source (c.mark_of-tail.ensures ∙ ap mark_of c.item.ensures) in
    let n = earlier-most c.room_earlier.result c.room_later.result c.in-Earlier.frames c.args.by c.used_within-used.result c.used_within-used.ensures c.in-Earlier.is in
    let f = earlier-fits c.args.table.now c.args.track.now c.args.found c.args.view.now c.args.source c.mark_of-tail.result c.room_earlier.result c.in-Earlier.frames r c.room_earlier.ensures c.room_earlier.type_inv n.1 in
    subst (StaysGood c.args.table.now c.args.track.now) (sym c.in_ok-set_source-in-Earlier.ensures.ok)
    (sourced-stays c.args.table.now c.args.track.now c.args.found.index (c.args.source - c.in-Earlier.frames) c.args.view.now c.requires.good c.requires.view (subst (Reaches c.args.table.now c.args.view.now (c.args.source - c.in-Earlier.frames)) r.tail_is f.0.reaches))

pub returns-in_err-set_source-in-Later-clause-answers : goal.returns-in_err-set_source-in-Later-clause-answers
returns-in_err-set_source-in-Later-clause-answers c =
    let r = ready c.args.table.now c.args.track.now c.args.found c.args.view.now c.args.source c.mark_of-tail.result c.requires.good c.requires.place c.requires.view c.requires.source (c.mark_of-tail.ensures ∙ ap mark_of c.item.ensures) in
    let n = later-most c.room_earlier.result c.room_later.result c.in-Later.frames c.args.by c.used_within-used.result c.used_within-used.ensures c.in-Later.is in
    let f = later-fits c.args.table.now c.args.track.now c.args.found c.args.view.now c.args.source c.mark_of-tail.result c.room_later.result c.in-Later.frames r c.room_later.ensures.reach c.room_later.ensures.numbered c.room_later.type_inv n.1 in
    answers-memory (slip_range c.args.table.now c.args.track.now c.args.by c.args.found.from c.args.found.to) c.args.track.now c.set_source.new.self c.from_residual.result c.from_residual.ensures.1
    (ap is_ok (slip-later c.args.table.now c.args.track.now (changed_track c.args.track.now c.args.found.index (with_source (c.args.source + c.in-Later.frames))) c.args.found c.args.view.now c.args.source c.in-Later.frames c.mark_of-tail.result c.args.by c.used_within-used.result c.requires.good r (slip-used c.args.table.now c.args.track.now c.args.found c.args.view.now c.args.source c.mark_of-tail.result c.room_earlier.result c.room_later.result c.args.by c.used_within-used.result r c.ranges.by c.room_earlier.ensures c.room_later.ensures.reach c.used_within-used.ensures) c.in-Later.is f refl)) c.in_err-set_source-in-Later.ensures.err

pub returns-in_err-set_source-in-Later-clause-good : goal.returns-in_err-set_source-in-Later-clause-good
returns-in_err-set_source-in-Later-clause-good c =
    subst (StaysGood c.args.table.now c.args.track.now) (sym c.in_err-set_source-in-Later.ensures.err) (record { good = c.requires.good; number = refl })

pub returns-in_err-set_source-in-Earlier-clause-answers : goal.returns-in_err-set_source-in-Earlier-clause-answers
returns-in_err-set_source-in-Earlier-clause-answers c =
    let r = ready c.args.table.now c.args.track.now c.args.found c.args.view.now c.args.source c.mark_of-tail.result c.requires.good c.requires.place c.requires.view c.requires.source (c.mark_of-tail.ensures ∙ ap mark_of c.item.ensures) in
    let n = earlier-most c.room_earlier.result c.room_later.result c.in-Earlier.frames c.args.by c.used_within-used.result c.used_within-used.ensures c.in-Earlier.is in
    let f = earlier-fits c.args.table.now c.args.track.now c.args.found c.args.view.now c.args.source c.mark_of-tail.result c.room_earlier.result c.in-Earlier.frames r c.room_earlier.ensures c.room_earlier.type_inv n.1 in
    answers-memory (slip_range c.args.table.now c.args.track.now c.args.by c.args.found.from c.args.found.to) c.args.track.now c.set_source-in-Earlier.new.self c.from_residual-in_err-set_source-in-Earlier.result c.from_residual-in_err-set_source-in-Earlier.ensures.1
    (ap is_ok (slip-earlier c.args.table.now c.args.track.now (changed_track c.args.track.now c.args.found.index (with_source (c.args.source - c.in-Earlier.frames))) c.args.found c.args.view.now c.args.source c.in-Earlier.frames c.mark_of-tail.result c.args.by c.used_within-used.result c.requires.good r (slip-used c.args.table.now c.args.track.now c.args.found c.args.view.now c.args.source c.mark_of-tail.result c.room_earlier.result c.room_later.result c.args.by c.used_within-used.result r c.ranges.by c.room_earlier.ensures c.room_later.ensures.reach c.used_within-used.ensures) c.in-Earlier.is f refl)) c.in_err-set_source-in-Earlier.ensures.err

pub returns-in_err-set_source-in-Earlier-clause-good : goal.returns-in_err-set_source-in-Earlier-clause-good
returns-in_err-set_source-in-Earlier-clause-good c =
    subst (StaysGood c.args.table.now c.args.track.now) (sym c.in_err-set_source-in-Earlier.ensures.err) (record { good = c.requires.good; number = refl })
