use Rattle.std.proofs.Common.{◌+◌, ◌-◌, sym, arith, subst, Result}
use Rattle.composables.specs.declared.refusals.Done.{Done}
use Rattle.composables.specs.declared.refusals.Refusal.{Refusal}
use Rattle.out_of_memory.specs.Answers.{Answers}
use Rattle.composables.specs.TrackState.{TrackState}
use Rattle.edit_delta.specs.declared.deltas.Way.TheVariants.{Earlier, Later}
use Rattle.edit_delta.proofs.Pieces.{numbered-after}
use Rattle.edit_splice.proofs.Standing.{stays-self}
use Rattle.edit_roll.specs.NeighboursInside.{FitsBetween}
use Rattle.edit_roll.proofs.Beside.{whole-of}
use Rattle.edit_roll.proofs.Moves.{around-of, before-fits, moved-used, roll-back, roll-earlier, roll-later, roll-on, roll-still}
use Rattle.edit_roll.proofs.rolling.roll_cut.Goals as goal

pub used_between-used-requires-clause-left : goal.used_between-used-requires-clause-left
used_between-used-requires-clause-left g c =
    let a = around-of c.args.table.now c.args.track.now c.args.at c.args.at c.args.sides.now c.requires.good c.requires.sides in
    whole-of c.args.table.now c.args.track.now a.before c.args.sides.now.left (c.args.at - c.args.sides.now.left.len) c.args.at a.left

pub used_between-used-requires-clause-right : goal.used_between-used-requires-clause-right
used_between-used-requires-clause-right g c =
    let a = around-of c.args.table.now c.args.track.now c.args.at c.args.at c.args.sides.now c.requires.good c.requires.sides in
    whole-of c.args.table.now c.args.track.now a.behind c.args.sides.now.right c.args.at (c.args.at + c.args.sides.now.right.len) a.right

pub going_on-requires-clause-filled : goal.going_on-requires-clause-filled
going_on-requires-clause-filled g c =
    (around-of c.args.table.now c.args.track.now c.args.at c.args.at c.args.sides.now c.requires.good c.requires.sides).left.filled

pub going_on-requires-clause-source : goal.going_on-requires-clause-source
going_on-requires-clause-source g c =
    let f : FitsBetween c.args.table.now c.args.sides.now.left c.args.sides.now.right (Later c.in-Later.frames) = subst (FitsBetween c.args.table.now c.args.sides.now.left c.args.sides.now.right) c.in-Later.is c.used_between-used.ensures.fits in
    numbered-after c.args.sides.now.left.first c.args.sides.now.left.len c.in-Later.frames c.in-Later.frames f.0 (omega arith) f.3

pub overflow_add-to : goal.overflow_add-to
overflow_add-to g c =
    let a = around-of c.args.table.now c.args.track.now c.args.at c.args.at c.args.sides.now c.requires.good c.requires.sides in
    let f : FitsBetween c.args.table.now c.args.sides.now.left c.args.sides.now.right (Later c.in-Later.frames) = subst (FitsBetween c.args.table.now c.args.sides.now.left c.args.sides.now.right) c.in-Later.is c.used_between-used.ensures.fits in
    omega (arith, f.1, a.right.within, c.requires.good.frames)

pub place_parts-requires-clause-parts : goal.place_parts-requires-clause-parts
place_parts-requires-clause-parts g c =
    let a = around-of c.args.table.now c.args.track.now c.args.at c.args.at c.args.sides.now c.requires.good c.requires.sides in
    let f : FitsBetween c.args.table.now c.args.sides.now.left c.args.sides.now.right (Later c.in-Later.frames) = subst (FitsBetween c.args.table.now c.args.sides.now.left c.args.sides.now.right) c.in-Later.is c.used_between-used.ensures.fits in
    roll-on c.args.table.now c.args.track.now c.args.at c.args.sides.now.left c.args.sides.now.right c.going_on.result c.in-Later.frames c.requires.good a f c.going_on.ensures

pub reaching_back-requires : goal.reaching_back-requires
reaching_back-requires g c =
    let a = around-of c.args.table.now c.args.track.now c.args.at c.args.at c.args.sides.now c.requires.good c.requires.sides in
    let f : FitsBetween c.args.table.now c.args.sides.now.left c.args.sides.now.right (Earlier c.in-Earlier.frames) = subst (FitsBetween c.args.table.now c.args.sides.now.left c.args.sides.now.right) c.in-Earlier.is c.used_between-used.ensures.fits in
    record { source = (before-fits c.args.table.now c.args.track.now c.args.at c.args.at c.args.sides.now.left c.args.sides.now.right c.in-Earlier.frames a f).source }

pub overflow_sub-from : goal.overflow_sub-from
overflow_sub-from g c =
    let a = around-of c.args.table.now c.args.track.now c.args.at c.args.at c.args.sides.now c.requires.good c.requires.sides in
    let f : FitsBetween c.args.table.now c.args.sides.now.left c.args.sides.now.right (Earlier c.in-Earlier.frames) = subst (FitsBetween c.args.table.now c.args.sides.now.left c.args.sides.now.right) c.in-Earlier.is c.used_between-used.ensures.fits in
    omega (arith, f.1, a.left.long)

pub place_parts-requires-in-Earlier-clause-parts : goal.place_parts-requires-in-Earlier-clause-parts
place_parts-requires-in-Earlier-clause-parts g c =
    let a = around-of c.args.table.now c.args.track.now c.args.at c.args.at c.args.sides.now c.requires.good c.requires.sides in
    let f : FitsBetween c.args.table.now c.args.sides.now.left c.args.sides.now.right (Earlier c.in-Earlier.frames) = subst (FitsBetween c.args.table.now c.args.sides.now.left c.args.sides.now.right) c.in-Earlier.is c.used_between-used.ensures.fits in
    roll-back c.args.table.now c.args.track.now c.args.at c.args.sides.now.left c.args.sides.now.right c.reaching_back.result c.in-Earlier.frames c.requires.good a f c.reaching_back.ensures

pub returns-in-Still-clause-answers : goal.returns-in-Still-clause-answers
returns-in-Still-clause-answers g c =
    let a = around-of c.args.table.now c.args.track.now c.args.at c.args.at c.args.sides.now c.requires.good c.requires.sides in
    let used = moved-used c.args.table.now c.args.track.now c.args.at c.args.at c.args.sides.now.left c.args.sides.now.right c.args.by c.used_between-used.result a c.ranges.by c.used_between-used.ensures.used in
    roll-still c.args.table.now c.args.track.now c.args.at c.args.by c.used_between-used.result used c.in-Still.is

pub returns-in-Still-clause-good : goal.returns-in-Still-clause-good
returns-in-Still-clause-good g c = stays-self c.args.table.now c.args.track.now c.requires.good

pub returns-in-Later-clause-answers : goal.returns-in-Later-clause-answers
returns-in-Later-clause-answers g c =
    let a = around-of c.args.table.now c.args.track.now c.args.at c.args.at c.args.sides.now c.requires.good c.requires.sides in
    let used = moved-used c.args.table.now c.args.track.now c.args.at c.args.at c.args.sides.now.left c.args.sides.now.right c.args.by c.used_between-used.result a c.ranges.by c.used_between-used.ensures.used in
    let means = roll-later c.args.table.now c.args.track.now c.args.at c.args.sides.now.left c.args.sides.now.right c.going_on.result c.in-Later.frames c.args.by c.used_between-used.result a used c.in-Later.is c.going_on.ensures in
    subst (λ (m : Result (TrackState × Done) Refusal). Answers m c.args.track.now c.place_parts.new.track c.place_parts.result) (sym means) c.place_parts.ensures.answers

pub returns-in-Earlier-clause-answers : goal.returns-in-Earlier-clause-answers
returns-in-Earlier-clause-answers g c =
    let a = around-of c.args.table.now c.args.track.now c.args.at c.args.at c.args.sides.now c.requires.good c.requires.sides in
    let used = moved-used c.args.table.now c.args.track.now c.args.at c.args.at c.args.sides.now.left c.args.sides.now.right c.args.by c.used_between-used.result a c.ranges.by c.used_between-used.ensures.used in
    let means = roll-earlier c.args.table.now c.args.track.now c.args.at c.args.sides.now.left c.args.sides.now.right c.reaching_back.result c.in-Earlier.frames c.args.by c.used_between-used.result a used c.in-Earlier.is c.reaching_back.ensures in
    subst (λ (m : Result (TrackState × Done) Refusal). Answers m c.args.track.now c.place_parts-in-Earlier.new.track c.place_parts-in-Earlier.result) (sym means) c.place_parts-in-Earlier.ensures.answers
