use Rattle.std.proofs.Common.{◌+◌, ◌-◌, [], ◌∷◌, sym, arith, subst, refl, Result}
use Rattle.composables.specs.declared.items.ItemView.{ItemView}
use Rattle.composables.specs.declared.refusals.Done.{Done}
use Rattle.composables.specs.declared.refusals.Refusal.{Refusal}
use Rattle.out_of_memory.specs.Answers.{Answers}
use Rattle.composables.specs.TrackState.{TrackState}
use Rattle.edit_delta.specs.Parts.{AreParts}
use Rattle.edit_delta.proofs.Answered.{earlier-most, later-most}
use Rattle.edit_delta.proofs.Pieces.{back-parts, gap-parts, grown-before}
use Rattle.edit_delta.proofs.Spots.{spot-at}
use Rattle.edit_splice.proofs.Standing.{stays-self}
use Rattle.edit_trim.proofs.Trims.{dark-there, head-earlier, head-later, head-still, head-used}
use Rattle.edit_trim.proofs.trimming.trim_head.Goals as goal

pub frames_before-requires : goal.frames_before-requires
frames_before-requires g c = record { lies = (spot-at c.args.table.now c.args.track.now c.args.found c.args.view.now c.requires.good c.requires.place c.requires.view).lies }

pub overflow_sub-view : goal.overflow_sub-view
overflow_sub-view g c = omega (arith, (spot-at c.args.table.now c.args.track.now c.args.found c.args.view.now c.requires.good c.requires.place c.requires.view).filled)

pub overflow_add-to : goal.overflow_add-to
overflow_add-to g c =
    let s = spot-at c.args.table.now c.args.track.now c.args.found c.args.view.now c.requires.good c.requires.place c.requires.view in
    let n = later-most c.min-earlier.result (c.args.view.now.len - 1) c.in-Later.frames c.args.by c.used_within-used.result c.used_within-used.ensures c.in-Later.is in
    omega (arith, n.1, s.long, s.filled, s.within, c.requires.good.frames)

pub place_parts-requires-clause-parts : goal.place_parts-requires-clause-parts
place_parts-requires-clause-parts g c =
    let s = spot-at c.args.table.now c.args.track.now c.args.found c.args.view.now c.requires.good c.requires.place c.requires.view in
    let n = later-most c.min-earlier.result (c.args.view.now.len - 1) c.in-Later.frames c.args.by c.used_within-used.result c.used_within-used.ensures c.in-Later.is in
    subst (λ (u : ItemView). AreParts c.args.table.now c.args.track.now c.args.found.from (c.args.found.from + c.in-Later.frames) (u ∷ [])) (sym c.gap.ensures)
    (gap-parts c.args.table.now c.args.track.now c.args.found.from (c.args.found.from + c.in-Later.frames) c.in-Later.frames c.requires.good refl (omega (arith, n.1, s.long, s.filled, s.within)) n.0)

pub reaching_back-requires : goal.reaching_back-requires
reaching_back-requires g c =
    let s = spot-at c.args.table.now c.args.track.now c.args.found c.args.view.now c.requires.good c.requires.place c.requires.view in
    let n = earlier-most c.min-earlier.result (c.args.view.now.len - 1) c.in-Earlier.frames c.args.by c.used_within-used.result c.used_within-used.ensures c.in-Earlier.is in
    record { source = (grown-before c.args.table.now c.args.track.now c.args.found.index c.args.view.now c.args.found.from c.args.found.to c.frames_before.result c.in-Earlier.frames s c.frames_before.ensures.reach c.frames_before.type_inv (omega (arith, n.1, c.min-earlier.ensures))).source }

pub overflow_sub-from : goal.overflow_sub-from
overflow_sub-from g c =
    let n = earlier-most c.min-earlier.result (c.args.view.now.len - 1) c.in-Earlier.frames c.args.by c.used_within-used.result c.used_within-used.ensures c.in-Earlier.is in
    dark-there c.args.track.now.cells c.args.found.from c.dark_before.result c.frames_before.result c.min-earlier.result c.in-Earlier.frames c.dark_before.ensures c.min-earlier.ensures c.dark_before.type_inv n.1

pub place_parts-requires-in-Earlier-clause-parts : goal.place_parts-requires-in-Earlier-clause-parts
place_parts-requires-in-Earlier-clause-parts g c =
    let s = spot-at c.args.table.now c.args.track.now c.args.found c.args.view.now c.requires.good c.requires.place c.requires.view in
    let n = earlier-most c.min-earlier.result (c.args.view.now.len - 1) c.in-Earlier.frames c.args.by c.used_within-used.result c.used_within-used.ensures c.in-Earlier.is in
    let d = dark-there c.args.track.now.cells c.args.found.from c.dark_before.result c.frames_before.result c.min-earlier.result c.in-Earlier.frames c.dark_before.ensures c.min-earlier.ensures c.dark_before.type_inv n.1 in
    back-parts c.args.table.now c.args.track.now c.args.found.index c.args.view.now c.reaching_back.result c.args.found.from c.args.found.to (c.args.found.from - c.in-Earlier.frames) c.in-Earlier.frames c.requires.good s n.0 (omega (arith, d)) (grown-before c.args.table.now c.args.track.now c.args.found.index c.args.view.now c.args.found.from c.args.found.to c.frames_before.result c.in-Earlier.frames s c.frames_before.ensures.reach c.frames_before.type_inv (omega (arith, n.1, c.min-earlier.ensures))) c.reaching_back.ensures

pub returns-in-Still-clause-answers : goal.returns-in-Still-clause-answers
returns-in-Still-clause-answers g c =
    let s = spot-at c.args.table.now c.args.track.now c.args.found c.args.view.now c.requires.good c.requires.place c.requires.view in
    let used = head-used c.args.table.now c.args.track.now c.args.found.index c.args.view.now c.args.found.from c.args.found.to c.dark_before.result c.frames_before.result c.min-earlier.result c.args.by c.used_within-used.result s c.ranges.by c.dark_before.ensures c.frames_before.ensures.reach c.min-earlier.ensures c.used_within-used.ensures in
    head-still c.args.table.now c.args.track.now c.args.found.from c.args.found.to c.args.by c.used_within-used.result used c.in-Still.is

pub returns-in-Still-clause-good : goal.returns-in-Still-clause-good
returns-in-Still-clause-good g c = stays-self c.args.table.now c.args.track.now c.requires.good

pub returns-in-Later-clause-answers : goal.returns-in-Later-clause-answers
returns-in-Later-clause-answers g c =
    let s = spot-at c.args.table.now c.args.track.now c.args.found c.args.view.now c.requires.good c.requires.place c.requires.view in
    let n = later-most c.min-earlier.result (c.args.view.now.len - 1) c.in-Later.frames c.args.by c.used_within-used.result c.used_within-used.ensures c.in-Later.is in
    let used = head-used c.args.table.now c.args.track.now c.args.found.index c.args.view.now c.args.found.from c.args.found.to c.dark_before.result c.frames_before.result c.min-earlier.result c.args.by c.used_within-used.result s c.ranges.by c.dark_before.ensures c.frames_before.ensures.reach c.min-earlier.ensures c.used_within-used.ensures in
    let means = head-later c.args.table.now c.args.track.now c.gap.result c.args.found.from c.args.found.to c.in-Later.frames c.args.by c.used_within-used.result used c.in-Later.is n.0 c.gap.ensures in
    subst (λ (m : Result (TrackState × Done) Refusal). Answers m c.args.track.now c.place_parts.new.track c.place_parts.result) (sym means) c.place_parts.ensures.answers

pub returns-in-Earlier-clause-answers : goal.returns-in-Earlier-clause-answers
returns-in-Earlier-clause-answers g c =
    let s = spot-at c.args.table.now c.args.track.now c.args.found c.args.view.now c.requires.good c.requires.place c.requires.view in
    let used = head-used c.args.table.now c.args.track.now c.args.found.index c.args.view.now c.args.found.from c.args.found.to c.dark_before.result c.frames_before.result c.min-earlier.result c.args.by c.used_within-used.result s c.ranges.by c.dark_before.ensures c.frames_before.ensures.reach c.min-earlier.ensures c.used_within-used.ensures in
    let means = head-earlier c.args.table.now c.args.track.now c.args.found.index c.args.view.now c.reaching_back.result c.args.found.from c.args.found.to c.in-Earlier.frames c.args.by c.used_within-used.result s used c.in-Earlier.is c.reaching_back.ensures in
    subst (λ (m : Result (TrackState × Done) Refusal). Answers m c.args.track.now c.place_parts-in-Earlier.new.track c.place_parts-in-Earlier.result) (sym means) c.place_parts-in-Earlier.ensures.answers
