use Rattle.std.proofs.Common.{◌≡◌, ◌+◌, Some, refl, sym, ◌∙◌, arith, slice_get, subst}
use Rattle.composables.specs.Items.{items_of}
use Rattle.composables.proofs.Pieces.{got_within, left-first, left-rest}
use Rattle.link_groups.proofs.PassedOver.{reads-none}
use Rattle.edit_trim.proofs.LinkedRooms.{RoomFront, front-end, front-met, front-passed, front-start}
use Rattle.edit_trim.proofs.Others.{room-others}
use Rattle.link_groups.proofs.Others.{left-past, past-within}
use Rattle.edit_trim.proofs.linked_slips.room_on.Goals as goal
use Rattle.edit_trim.proofs.linked_slips.room_on.Goals.{then-carries, else-carries}

pub loop-index-init : goal.loop-index-init
loop-index-init g c = record {
  within = omega arith;
  items = c.at-items.ensures;
  room = front-start c.args.table.now c.args.link (items_of c.args.track.now.cells) _ refl refl;
  from = omega arith;
  most = omega arith;
}

pub overflow_add-index : goal.overflow_add-index
overflow_add-index g c =
    let vs = items_of c.args.track.now.cells in
    let i = c.loop-index.index in
    let n = c.pass_others-passed.result.count in
    let fits = past-within vs c.loop-index.items i n c.loop-index.invariant.within c.loop-index.invariant.items c.pass_others-passed.ensures.within in
    let left = left-past vs c.loop-index.items c.pass_others-passed.new.self i n c.loop-index.invariant.items c.pass_others-passed.ensures.left in
    omega (arith, fits, c.requires.good.items)

pub returns-in_default-clause-room : goal.returns-in_default-clause-room
returns-in_default-clause-room g c =
    let vs = items_of c.args.track.now.cells in
    let i = c.loop-index.index in
    let n = c.pass_others-passed.result.count in
    let fits = past-within vs c.loop-index.items i n c.loop-index.invariant.within c.loop-index.invariant.items c.pass_others-passed.ensures.within in
    let left = left-past vs c.loop-index.items c.pass_others-passed.new.self i n c.loop-index.invariant.items c.pass_others-passed.ensures.left in
    let past = room-others c.args.table.now c.args.link i n vs c.loop-index.items c.loop-index.room c.loop-index.invariant.within c.loop-index.invariant.items c.pass_others-passed.ensures.within c.pass_others-passed.ensures.others c.loop-index.invariant.room in
    front-end c.args.table.now c.args.link (i + n) vs c.loop-index.room (reads-none vs c.pass_others-passed.new.self (i + n) left (c.in_default.ensures.none refl).0) past

pub returns-in_default-clause-most : goal.returns-in_default-clause-most
returns-in_default-clause-most g c = omega (arith, c.loop-index.invariant.most, c.loop-index.invariant.within)

pub room_to_slip-requires-clause-view : goal.room_to_slip-requires-clause-view
room_to_slip-requires-clause-view g c =
    let vs = items_of c.args.track.now.cells in
    let i = c.loop-index.index in
    let n = c.pass_others-passed.result.count in
    let fits = past-within vs c.loop-index.items i n c.loop-index.invariant.within c.loop-index.invariant.items c.pass_others-passed.ensures.within in
    let left = left-past vs c.loop-index.items c.pass_others-passed.new.self i n c.loop-index.invariant.items c.pass_others-passed.ensures.left in
    left-first vs c.pass_others-passed.new.self c.next.new.self (i + n) c.in-Some.view left c.in-Some.ensures.some

pub room_to_slip-requires-clause-within : goal.room_to_slip-requires-clause-within
room_to_slip-requires-clause-within g c =
    let vs = items_of c.args.track.now.cells in
    let i = c.loop-index.index in
    let n = c.pass_others-passed.result.count in
    let fits = past-within vs c.loop-index.items i n c.loop-index.invariant.within c.loop-index.invariant.items c.pass_others-passed.ensures.within in
    let left = left-past vs c.loop-index.items c.pass_others-passed.new.self i n c.loop-index.invariant.items c.pass_others-passed.ensures.left in
    let read : slice_get vs (i + n) ≡ Some c.in-Some.view = left-first vs c.pass_others-passed.new.self c.next.new.self (i + n) c.in-Some.view left c.in-Some.ensures.some in
    let rest = left-rest vs c.pass_others-passed.new.self c.next.new.self (i + n) c.in-Some.view left c.in-Some.ensures.some in
    let low = got_within vs (i + n) c.in-Some.view read in
    low

pub loop-index-preserved : goal.loop-index-preserved
loop-index-preserved g c =
    let vs = items_of c.args.track.now.cells in
    let i = c.loop-index.index in
    let n = c.pass_others-passed.result.count in
    let fits = past-within vs c.loop-index.items i n c.loop-index.invariant.within c.loop-index.invariant.items c.pass_others-passed.ensures.within in
    let left = left-past vs c.loop-index.items c.pass_others-passed.new.self i n c.loop-index.invariant.items c.pass_others-passed.ensures.left in
    let read : slice_get vs (i + n) ≡ Some c.in-Some.view = left-first vs c.pass_others-passed.new.self c.next.new.self (i + n) c.in-Some.view left c.in-Some.ensures.some in
    let rest = left-rest vs c.pass_others-passed.new.self c.next.new.self (i + n) c.in-Some.view left c.in-Some.ensures.some in
    let low = got_within vs (i + n) c.in-Some.view read in
    let past = room-others c.args.table.now c.args.link i n vs c.loop-index.items c.loop-index.room c.loop-index.invariant.within c.loop-index.invariant.items c.pass_others-passed.ensures.within c.pass_others-passed.ensures.others c.loop-index.invariant.room in
    elim c.if-carries.branch [
      | then-carries w ↦ record {
        within = omega (arith, low);
        items = rest;
        room =
            subst (RoomFront c.args.table.now c.args.link (i + n + 1) vs) (sym w.room-is)
            (front-met c.args.table.now c.args.link (i + n) vs c.in-Some.view _ c.loop-index.room w.room_to_slip.result w.narrower-room.result read (sym c.carries.ensures ∙ w.if-carries.true) refl w.narrower-room.ensures.earlier w.narrower-room.ensures.later past w.room_to_slip.ensures);
        from = omega (arith, c.loop-index.invariant.from, c.tick.ensures);
        most = omega (arith, c.loop-index.invariant.most, c.tick.ensures);
      }
      | else-carries w ↦ record {
        within = omega (arith, low);
        items = rest;
        room =
            subst (RoomFront c.args.table.now c.args.link (i + n + 1) vs) (sym w.room-is)
            (front-passed c.args.table.now c.args.link (i + n) vs c.in-Some.view c.loop-index.room read (sym c.carries.ensures ∙ w.if-carries.false) past);
        from = omega (arith, c.loop-index.invariant.from, c.tick.ensures);
        most = omega (arith, c.loop-index.invariant.most, c.tick.ensures);
      }
    ]

pub returns-clause-room : goal.returns-clause-room
returns-clause-room g c =
    front-end c.args.table.now c.args.link c.loop-index.index (items_of c.args.track.now.cells) c.loop-index.room (omega (arith, c.loop-index-test.false, c.count-count.ensures)) c.loop-index.invariant.room

pub returns-clause-most : goal.returns-clause-most
returns-clause-most g c = omega (arith, c.loop-index.invariant.most, c.loop-index.invariant.within)

pub loop-index-smaller : goal.loop-index-smaller
loop-index-smaller g c =
    let vs = items_of c.args.track.now.cells in
    let i = c.loop-index.index in
    let n = c.pass_others-passed.result.count in
    let fits = past-within vs c.loop-index.items i n c.loop-index.invariant.within c.loop-index.invariant.items c.pass_others-passed.ensures.within in
    let left = left-past vs c.loop-index.items c.pass_others-passed.new.self i n c.loop-index.invariant.items c.pass_others-passed.ensures.left in
    let read : slice_get vs (i + n) ≡ Some c.in-Some.view = left-first vs c.pass_others-passed.new.self c.next.new.self (i + n) c.in-Some.view left c.in-Some.ensures.some in
    let rest = left-rest vs c.pass_others-passed.new.self c.next.new.self (i + n) c.in-Some.view left c.in-Some.ensures.some in
    let low = got_within vs (i + n) c.in-Some.view read in
    omega (arith, low)
