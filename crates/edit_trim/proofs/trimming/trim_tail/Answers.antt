use Rattle.std.proofs.Common.{◌≡◌, ◌+◌, ◌-◌, ℕ, [], ◌∷◌, length, min, ap, sym, ◌∙◌, arith, subst, Result}
use Rattle.composables.specs.declared.items.ItemView.{ItemView}
use Rattle.composables.specs.declared.refusals.Done.{Done}
use Rattle.composables.specs.declared.refusals.Refusal.{Refusal}
use Rattle.out_of_memory.specs.Answers.{Answers}
use Rattle.composables.specs.TrackState.{TrackState}
use Rattle.edit_delta.specs.Parts.{AreParts}
use Rattle.edit_delta.proofs.Answered.{earlier-most, later-most}
use Rattle.edit_delta.proofs.Pieces.{gap-parts, grown-after, numbered-after, on-parts}
use Rattle.edit_delta.proofs.Spots.{spot-at}
use Rattle.edit_splice.proofs.Standing.{stays-self}
use Rattle.edit_trim.proofs.Trims.{room-there, tail-earlier, tail-later, tail-still, tail-used}
use Rattle.edit_trim.proofs.trimming.trim_tail.Goals as goal

pub frames_after-requires-clause-filled : goal.frames_after-requires-clause-filled
frames_after-requires-clause-filled g c = (spot-at c.args.table.now c.args.track.now c.args.found c.args.view.now c.requires.good c.requires.place c.requires.view).filled

pub frames_after-requires-clause-lies : goal.frames_after-requires-clause-lies
frames_after-requires-clause-lies g c = (spot-at c.args.table.now c.args.track.now c.args.found c.args.view.now c.requires.good c.requires.place c.requires.view).lies

pub frames_after-requires-clause-source : goal.frames_after-requires-clause-source
frames_after-requires-clause-source g c = (spot-at c.args.table.now c.args.track.now c.args.found c.args.view.now c.requires.good c.requires.place c.requires.view).source

pub overflow_sub-view : goal.overflow_sub-view
overflow_sub-view g c = omega (arith, (spot-at c.args.table.now c.args.track.now c.args.found c.args.view.now c.requires.good c.requires.place c.requires.view).filled)

pub going_on-requires-clause-filled : goal.going_on-requires-clause-filled
going_on-requires-clause-filled g c = (spot-at c.args.table.now c.args.track.now c.args.found c.args.view.now c.requires.good c.requires.place c.requires.view).filled

pub going_on-requires-clause-source : goal.going_on-requires-clause-source
going_on-requires-clause-source g c =
    let n = later-most (c.args.view.now.len - 1) c.min-later.result c.in-Later.frames c.args.by c.used_within-used.result c.used_within-used.ensures c.in-Later.is in
    numbered-after c.args.view.now.first c.args.view.now.len c.frames_after.result c.in-Later.frames n.0 (omega (arith, n.1, c.min-later.ensures)) c.frames_after.ensures.numbered

pub place_parts-requires-clause-parts : goal.place_parts-requires-clause-parts
place_parts-requires-clause-parts g c =
    let s = spot-at c.args.table.now c.args.track.now c.args.found c.args.view.now c.requires.good c.requires.place c.requires.view in
    let n = later-most (c.args.view.now.len - 1) c.min-later.result c.in-Later.frames c.args.by c.used_within-used.result c.used_within-used.ensures c.in-Later.is in
    let room = room-there c.args.track.now.cells c.args.found.to c.dark_behind.result c.frames_after.result c.min-later.result c.in-Later.frames c.dark_behind.ensures c.min-later.ensures c.dark_behind.type_inv n.1 in
    let end : c.min-to.result ≡ min (c.args.found.to + c.in-Later.frames) (length c.args.track.now.cells) = (c.min-to.ensures ∙ ap (λ (k : ℕ). min (c.args.found.to + c.in-Later.frames) k) c.length.ensures.value) in
    on-parts c.args.table.now c.args.track.now c.args.found.index c.args.view.now c.going_on.result c.args.found.from c.args.found.to c.min-to.result c.in-Later.frames s n.0
    (omega (arith, end, s.within)) (omega (arith, end)) (omega (arith, end, room, c.requires.good.frames)) (grown-after c.args.table.now c.args.track.now c.args.found.index c.args.view.now c.args.found.from c.args.found.to c.frames_after.result c.in-Later.frames s c.frames_after.ensures.reach c.frames_after.ensures.numbered c.frames_after.type_inv (omega (arith, n.1, c.min-later.ensures))) c.going_on.ensures

pub overflow_sub-from : goal.overflow_sub-from
overflow_sub-from g c =
    let s = spot-at c.args.table.now c.args.track.now c.args.found c.args.view.now c.requires.good c.requires.place c.requires.view in
    let n = earlier-most (c.args.view.now.len - 1) c.min-later.result c.in-Earlier.frames c.args.by c.used_within-used.result c.used_within-used.ensures c.in-Earlier.is in
    omega (arith, n.1, s.long)

pub place_parts-requires-in-Earlier-clause-parts : goal.place_parts-requires-in-Earlier-clause-parts
place_parts-requires-in-Earlier-clause-parts g c =
    let s = spot-at c.args.table.now c.args.track.now c.args.found c.args.view.now c.requires.good c.requires.place c.requires.view in
    let n = earlier-most (c.args.view.now.len - 1) c.min-later.result c.in-Earlier.frames c.args.by c.used_within-used.result c.used_within-used.ensures c.in-Earlier.is in
    subst (λ (u : ItemView). AreParts c.args.table.now c.args.track.now (c.args.found.to - c.in-Earlier.frames) c.args.found.to (u ∷ [])) (sym c.gap.ensures)
    (gap-parts c.args.table.now c.args.track.now (c.args.found.to - c.in-Earlier.frames) c.args.found.to c.in-Earlier.frames c.requires.good (omega (arith, n.1, s.long)) s.within n.0)

pub returns-in-Still-clause-answers : goal.returns-in-Still-clause-answers
returns-in-Still-clause-answers g c =
    let s = spot-at c.args.table.now c.args.track.now c.args.found c.args.view.now c.requires.good c.requires.place c.requires.view in
    let used = tail-used c.args.table.now c.args.track.now c.args.found.index c.args.view.now c.args.found.from c.args.found.to c.dark_behind.result c.frames_after.result c.min-later.result c.args.by c.used_within-used.result s c.ranges.by c.dark_behind.ensures c.frames_after.ensures.reach c.min-later.ensures c.used_within-used.ensures in
    tail-still c.args.table.now c.args.track.now c.args.found.from c.args.found.to c.args.by c.used_within-used.result used c.in-Still.is

pub returns-in-Still-clause-good : goal.returns-in-Still-clause-good
returns-in-Still-clause-good g c = stays-self c.args.table.now c.args.track.now c.requires.good

pub returns-in-Later-clause-answers : goal.returns-in-Later-clause-answers
returns-in-Later-clause-answers g c =
    let s = spot-at c.args.table.now c.args.track.now c.args.found c.args.view.now c.requires.good c.requires.place c.requires.view in
    let used = tail-used c.args.table.now c.args.track.now c.args.found.index c.args.view.now c.args.found.from c.args.found.to c.dark_behind.result c.frames_after.result c.min-later.result c.args.by c.used_within-used.result s c.ranges.by c.dark_behind.ensures c.frames_after.ensures.reach c.min-later.ensures c.used_within-used.ensures in
    let means = tail-later c.args.table.now c.args.track.now c.args.found.index c.args.view.now c.going_on.result c.args.found.from c.args.found.to c.min-to.result c.in-Later.frames c.args.by c.used_within-used.result s used c.in-Later.is (c.min-to.ensures ∙ ap (λ (k : ℕ). min (c.args.found.to + c.in-Later.frames) k) c.length.ensures.value) c.going_on.ensures in
    subst (λ (m : Result (TrackState × Done) Refusal). Answers m c.args.track.now c.place_parts.new.track c.place_parts.result) (sym means) c.place_parts.ensures.answers

pub returns-in-Earlier-clause-answers : goal.returns-in-Earlier-clause-answers
returns-in-Earlier-clause-answers g c =
    let s = spot-at c.args.table.now c.args.track.now c.args.found c.args.view.now c.requires.good c.requires.place c.requires.view in
    let n = earlier-most (c.args.view.now.len - 1) c.min-later.result c.in-Earlier.frames c.args.by c.used_within-used.result c.used_within-used.ensures c.in-Earlier.is in
    let used = tail-used c.args.table.now c.args.track.now c.args.found.index c.args.view.now c.args.found.from c.args.found.to c.dark_behind.result c.frames_after.result c.min-later.result c.args.by c.used_within-used.result s c.ranges.by c.dark_behind.ensures c.frames_after.ensures.reach c.min-later.ensures c.used_within-used.ensures in
    let means = tail-earlier c.args.table.now c.args.track.now c.gap.result c.args.found.from c.args.found.to c.in-Earlier.frames c.args.by c.used_within-used.result used c.in-Earlier.is n.0 c.gap.ensures in
    subst (λ (m : Result (TrackState × Done) Refusal). Answers m c.args.track.now c.place_parts-in-Earlier.new.track c.place_parts-in-Earlier.result) (sym means) c.place_parts-in-Earlier.ensures.answers
