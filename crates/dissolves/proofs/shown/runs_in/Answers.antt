use Rattle.std.proofs.Common.{List, ◌++◌, Option, Some, length, drop, sym, ap, ◌∙◌, arith, subst}
use Rattle.frame_meaning.specs.declared.cells.Cell.{Cell}
use Rattle.frame_meaning.specs.Render.{render}
use Rattle.composables.specs.declared.items.ItemView.{ItemView}
use Rattle.composables.specs.Items.{cells_of, items_of}
use Rattle.composables.specs.Joined.{frames_in}
use Rattle.dissolves.specs.Parts.{first_of, item_frames, frames_shown, EachBetween}
use Rattle.dissolves.specs.Walk.{Walked}
use Rattle.dissolves.proofs.Dissolved.{begins_at}
use Rattle.dissolves.proofs.Walk.{walk_begun, walk_done, walk_past, walk_room}
use Rattle.dissolves.proofs.Whole.{at_next, frames_of_items, is_first, none_left, still_left, with_next}
use Rattle.dissolves.proofs.shown.runs_in.Goals as goal

pub loop-here-init : goal.loop-here-init
loop-here-init c =
    let cs = c.args.track.now.cells in
    let vs = items_of cs in
    let p = c.in-Some.place in
    let kept = c.length-length.ensures.kept in
    let place = c.in-Some.ensures.found in
    let begins = begins_at vs p.index (omega (arith, place.index)) kept.each kept.not_before (omega (arith, frames_of_items cs kept.whole, c.requires.short)) in
    let before = c.view_before-before.ensures in
    let left = still_left c.next-here.result c.at-items.result c.next-here.new.self c.next-here.ensures.some c.next-here.ensures.none ∙ c.at-items.ensures in
    record {
      here = is_first c.next-here.result c.at-items.result c.next-here.new.self c.next-here.ensures.some c.next-here.ensures.none ∙ ap first_of (c.at-items.ensures ∙ sym left);
      walked =
          walk_begun c.new-shown.result.items p.from c.args.a c.args.b (frames_shown c.view_before-before.result (with_next c.next-here.result c.next-here.new.self)) (render cs)
          c.in-Some.ensures.begins c.requires.order c.new-shown.ensures.items
          (ap (frames_shown c.view_before-before.result) left
          ∙ (ap (λ (o : Option ItemView). frames_shown o (drop p.index vs)) before
          ∙ (begins.shown
          ∙ (ap (λ k. drop k (render (cells_of vs))) (sym place.from) ∙ ap (λ (ds : List Cell). drop p.from (render ds)) kept.whole))));
      frames = omega (arith, place.from, begins.frames, ap length kept.whole, ap frames_in left);
      each = subst (EachBetween c.view_before-before.result) (sym left) (subst (λ (o : Option ItemView). EachBetween o (drop p.index vs)) (sym before) begins.each);
    }

pub add_item-requires-clause-between : goal.add_item-requires-clause-between
add_item-requires-clause-between c = (at_next c.loop-here.before c.loop-here.here c.next-after.result c.in-Some-here.view c.loop-here.items c.next-after.new.self c.in-Some-here.is c.next-after.ensures.some c.next-after.ensures.none c.loop-here.invariant.each).between

pub add_item-requires-clause-places : goal.add_item-requires-clause-places
add_item-requires-clause-places c = omega (arith, c.length-length.ensures.kept.short, c.loop-here.invariant.frames, ap frames_in (at_next c.loop-here.before c.loop-here.here c.next-after.result c.in-Some-here.view c.loop-here.items c.next-after.new.self c.in-Some-here.is c.next-after.ensures.some c.next-after.ensures.none c.loop-here.invariant.each).rest)

pub add_item-requires-clause-room : goal.add_item-requires-clause-room
add_item-requires-clause-room c = walk_room c.loop-here.shown.items c.loop-here.from c.args.a c.args.b _ _ c.loop-here.invariant.walked

pub overflow_add-from : goal.overflow_add-from
overflow_add-from c = omega (arith, c.length-length.ensures.kept.short, c.loop-here.invariant.frames, ap frames_in (at_next c.loop-here.before c.loop-here.here c.next-after.result c.in-Some-here.view c.loop-here.items c.next-after.new.self c.in-Some-here.is c.next-after.ensures.some c.next-after.ensures.none c.loop-here.invariant.each).rest)

pub loop-here-smaller : goal.loop-here-smaller
loop-here-smaller c = omega (arith, ap length (at_next c.loop-here.before c.loop-here.here c.next-after.result c.in-Some-here.view c.loop-here.items c.next-after.new.self c.in-Some-here.is c.next-after.ensures.some c.next-after.ensures.none c.loop-here.invariant.each).rest)

pub loop-here-preserved : goal.loop-here-preserved
loop-here-preserved c =
    let v = c.in-Some-here.view in
    let behind = with_next c.next-after.result c.next-after.new.self in
    let at = at_next c.loop-here.before c.loop-here.here c.next-after.result c.in-Some-here.view c.loop-here.items c.next-after.new.self c.in-Some-here.is c.next-after.ensures.some c.next-after.ensures.none c.loop-here.invariant.each in
    let begun = subst (λ (ws : List ItemView). Walked c.loop-here.shown.items c.loop-here.from c.args.a c.args.b (frames_shown c.loop-here.before ws) (render c.args.track.now.cells)) at.rest c.loop-here.invariant.walked in
    let known = subst (λ (o : Option ItemView). Walked c.loop-here.shown.items c.loop-here.from c.args.a c.args.b (item_frames c.loop-here.before v o ++ frames_shown (Some v) behind) (render c.args.track.now.cells)) (sym at.next) begun in
    record {
      here = at.next;
      walked = c.in_ok-add_item.ensures.walked (frames_shown (Some v) behind) (render c.args.track.now.cells) known;
      frames = omega (arith, c.loop-here.invariant.frames, ap frames_in at.rest);
      each = at.each;
    }

pub returns : goal.returns
returns c =
    walk_done c.loop-here.shown.items c.loop-here.from c.args.a c.args.b _ (render c.args.track.now.cells) c.loop-here.invariant.walked
    (ap (frames_shown c.loop-here.before) (none_left _ c.loop-here.here c.loop-here.invariant.here c.in_default-here.is))

pub returns-then-from-b : goal.returns-then-from-b
returns-then-from-b c = walk_past c.loop-here.shown.items c.loop-here.from c.args.a c.args.b _ (render c.args.track.now.cells) c.loop-here.invariant.walked c.if-from-b.true
