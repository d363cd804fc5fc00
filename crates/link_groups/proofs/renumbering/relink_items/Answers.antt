use Rattle.std.proofs.Common.{◌≡◌, ◌+◌, Some, slice_get, sym, ◌∙◌, arith, refl}
use Rattle.composables.specs.Items.{items_of}
use Rattle.composables.proofs.Pieces.{left-first}
use Rattle.link_groups.proofs.Bare.{bare-track}
use Rattle.link_groups.proofs.LeastLinks.{frames-within}
use Rattle.link_groups.proofs.PassedOver.{few-kept, Reads, reads-next, reads-none, reads-on}
use Rattle.link_groups.proofs.Relinking.{all-links, kept-now, more-met, more-past, read-now}
use Rattle.link_groups.proofs.KeptLinks.{more-unmarked, start-linked}
use Rattle.link_groups.proofs.renumbering.relink_items.Goals as goal

pub returns-then-not-has_links-clause-relinked : goal.returns-then-not-has_links-clause-relinked
returns-then-not-has_links-clause-relinked g c =
    sym c.requires.same ∙ bare-track c.args.splits.now c.args.place c.args.old.now c.a_track_is_kept.ensures (c.if-not-has_links.ensures.none refl)

pub loop-index-init : goal.loop-index-init
loop-index-init g c = record {
  within = c.requires.start.within;
  items = c.at-items.ensures;
  end = c.requires.start.from;
  track =
      sym c.requires.same
      ∙ start-linked c.args.splits.now c.args.place c.args.old.now c.args.start.index c.a_track_is_kept.ensures c.requires.start.within (omega (arith, c.requires.start.from, c.requires.start.before));
  least = omega arith;
  most = omega arith;
}

pub overflow_add-index : goal.overflow_add-index
overflow_add-index g c =
    let vs = items_of c.args.old.now.cells in
    let i = c.loop-index.index in
    let n = c.pass_unmarked-past.result.count in
    let here : Reads vs c.loop-index.items i c.loop-index.end = record { within = c.loop-index.invariant.within; left_is = c.loop-index.invariant.items; at_is = c.loop-index.invariant.end } in
    let on = reads-on vs c.loop-index.items c.pass_unmarked-past.new.items i c.loop-index.end n c.pass_unmarked-past.result.frames
    here c.pass_unmarked-past.ensures.within c.pass_unmarked-past.ensures.left c.pass_unmarked-past.ensures.frames in
    omega (arith, on.within, few-kept c.args.old.now c.a_track_is_kept.ensures)

pub overflow_add-end : goal.overflow_add-end
overflow_add-end g c =
    let vs = items_of c.args.old.now.cells in
    let i = c.loop-index.index in
    let n = c.pass_unmarked-past.result.count in
    let here : Reads vs c.loop-index.items i c.loop-index.end = record { within = c.loop-index.invariant.within; left_is = c.loop-index.invariant.items; at_is = c.loop-index.invariant.end } in
    let on = reads-on vs c.loop-index.items c.pass_unmarked-past.new.items i c.loop-index.end n c.pass_unmarked-past.result.frames
    here c.pass_unmarked-past.ensures.within c.pass_unmarked-past.ensures.left c.pass_unmarked-past.ensures.frames in
    omega (arith, on.at_is, frames-within c.args.old.now (i + n) c.a_track_is_kept.ensures)

pub returns-in_default-clause-relinked : goal.returns-in_default-clause-relinked
returns-in_default-clause-relinked g c =
    let vs = items_of c.args.old.now.cells in
    let i = c.loop-index.index in
    let n = c.pass_unmarked-past.result.count in
    let here : Reads vs c.loop-index.items i c.loop-index.end = record { within = c.loop-index.invariant.within; left_is = c.loop-index.invariant.items; at_is = c.loop-index.invariant.end } in
    let on = reads-on vs c.loop-index.items c.pass_unmarked-past.new.items i c.loop-index.end n c.pass_unmarked-past.result.frames
    here c.pass_unmarked-past.ensures.within c.pass_unmarked-past.ensures.left c.pass_unmarked-past.ensures.frames in
    let bare = more-unmarked c.args.splits.now c.args.place c.args.old.now c.loop-index.track n i c.loop-index.items c.loop-index.invariant.items c.pass_unmarked-past.ensures.within
    c.requires.marked c.pass_unmarked-past.ensures.unmarked c.loop-index.invariant.track in
    bare ∙ all-links c.args.splits.now c.args.place c.args.old.now (i + n) (reads-none vs c.pass_unmarked-past.new.items (i + n) on.left_is (c.in_default.ensures.none refl).0)

pub overflow_add-index-in-loop-index : goal.overflow_add-index-in-loop-index
overflow_add-index-in-loop-index g c =
    let vs = items_of c.args.old.now.cells in
    let i = c.loop-index.index in
    let n = c.pass_unmarked-past.result.count in
    let here : Reads vs c.loop-index.items i c.loop-index.end = record { within = c.loop-index.invariant.within; left_is = c.loop-index.invariant.items; at_is = c.loop-index.invariant.end } in
    let on = reads-on vs c.loop-index.items c.pass_unmarked-past.new.items i c.loop-index.end n c.pass_unmarked-past.result.frames
    here c.pass_unmarked-past.ensures.within c.pass_unmarked-past.ensures.left c.pass_unmarked-past.ensures.frames in
    let v = c.in-Some.view in
    let read : slice_get vs (i + n) ≡ Some v = left-first vs c.pass_unmarked-past.new.items c.next.new.self (i + n) v on.left_is c.in-Some.ensures.some in
    let next = reads-next vs c.pass_unmarked-past.new.items c.next.new.self (i + n) _ v on c.in-Some.ensures.some in
    omega (arith, next.within, few-kept c.args.old.now c.a_track_is_kept.ensures)

pub overflow_add-end-in-loop-index : goal.overflow_add-end-in-loop-index
overflow_add-end-in-loop-index g c =
    let vs = items_of c.args.old.now.cells in
    let i = c.loop-index.index in
    let n = c.pass_unmarked-past.result.count in
    let here : Reads vs c.loop-index.items i c.loop-index.end = record { within = c.loop-index.invariant.within; left_is = c.loop-index.invariant.items; at_is = c.loop-index.invariant.end } in
    let on = reads-on vs c.loop-index.items c.pass_unmarked-past.new.items i c.loop-index.end n c.pass_unmarked-past.result.frames
    here c.pass_unmarked-past.ensures.within c.pass_unmarked-past.ensures.left c.pass_unmarked-past.ensures.frames in
    let v = c.in-Some.view in
    let read : slice_get vs (i + n) ≡ Some v = left-first vs c.pass_unmarked-past.new.items c.next.new.self (i + n) v on.left_is c.in-Some.ensures.some in
    let next = reads-next vs c.pass_unmarked-past.new.items c.next.new.self (i + n) _ v on c.in-Some.ensures.some in
    omega (arith, next.at_is, frames-within c.args.old.now (i + n + 1) c.a_track_is_kept.ensures)

pub relink_item-requires-clause-read : goal.relink_item-requires-clause-read
relink_item-requires-clause-read g c =
    let vs = items_of c.args.old.now.cells in
    let i = c.loop-index.index in
    let n = c.pass_unmarked-past.result.count in
    let here : Reads vs c.loop-index.items i c.loop-index.end = record { within = c.loop-index.invariant.within; left_is = c.loop-index.invariant.items; at_is = c.loop-index.invariant.end } in
    let on = reads-on vs c.loop-index.items c.pass_unmarked-past.new.items i c.loop-index.end n c.pass_unmarked-past.result.frames
    here c.pass_unmarked-past.ensures.within c.pass_unmarked-past.ensures.left c.pass_unmarked-past.ensures.frames in
    let bare = more-unmarked c.args.splits.now c.args.place c.args.old.now c.loop-index.track n i c.loop-index.items c.loop-index.invariant.items c.pass_unmarked-past.ensures.within
    c.requires.marked c.pass_unmarked-past.ensures.unmarked c.loop-index.invariant.track in
    let v = c.in-Some.view in
    let read : slice_get vs (i + n) ≡ Some v = left-first vs c.pass_unmarked-past.new.items c.next.new.self (i + n) v on.left_is c.in-Some.ensures.some in
    read-now c.args.splits.now c.args.place c.args.old.now c.loop-index.track (i + n) c.a_track_is_kept.ensures bare ∙ read

pub relink_item-requires-clause-kept : goal.relink_item-requires-clause-kept
relink_item-requires-clause-kept g c =
    let vs = items_of c.args.old.now.cells in
    let i = c.loop-index.index in
    let n = c.pass_unmarked-past.result.count in
    let here : Reads vs c.loop-index.items i c.loop-index.end = record { within = c.loop-index.invariant.within; left_is = c.loop-index.invariant.items; at_is = c.loop-index.invariant.end } in
    let on = reads-on vs c.loop-index.items c.pass_unmarked-past.new.items i c.loop-index.end n c.pass_unmarked-past.result.frames
    here c.pass_unmarked-past.ensures.within c.pass_unmarked-past.ensures.left c.pass_unmarked-past.ensures.frames in
    let bare = more-unmarked c.args.splits.now c.args.place c.args.old.now c.loop-index.track n i c.loop-index.items c.loop-index.invariant.items c.pass_unmarked-past.ensures.within
    c.requires.marked c.pass_unmarked-past.ensures.unmarked c.loop-index.invariant.track in
    kept-now c.args.splits.now c.args.place c.args.old.now c.loop-index.track (i + n) c.a_track_is_kept.ensures bare

pub loop-index-preserved-in-Continue-1 : goal.loop-index-preserved-in-Continue-1
loop-index-preserved-in-Continue-1 g c =
    let vs = items_of c.args.old.now.cells in
    let i = c.loop-index.index in
    let n = c.pass_unmarked-past.result.count in
    let here : Reads vs c.loop-index.items i c.loop-index.end = record { within = c.loop-index.invariant.within; left_is = c.loop-index.invariant.items; at_is = c.loop-index.invariant.end } in
    let on = reads-on vs c.loop-index.items c.pass_unmarked-past.new.items i c.loop-index.end n c.pass_unmarked-past.result.frames
    here c.pass_unmarked-past.ensures.within c.pass_unmarked-past.ensures.left c.pass_unmarked-past.ensures.frames in
    let bare = more-unmarked c.args.splits.now c.args.place c.args.old.now c.loop-index.track n i c.loop-index.items c.loop-index.invariant.items c.pass_unmarked-past.ensures.within
    c.requires.marked c.pass_unmarked-past.ensures.unmarked c.loop-index.invariant.track in
    let v = c.in-Some.view in
    let read : slice_get vs (i + n) ≡ Some v = left-first vs c.pass_unmarked-past.new.items c.next.new.self (i + n) v on.left_is c.in-Some.ensures.some in
    let next = reads-next vs c.pass_unmarked-past.new.items c.next.new.self (i + n) _ v on c.in-Some.ensures.some in
    record {
      within = next.within;
      items = next.left_is;
      end = next.at_is;
      track =
          c.in_ok-relink_item.ensures
          ∙ more-met c.args.splits.now c.args.place c.args.old.now c.loop-index.track (i + n) v c.a_track_is_kept.ensures bare read (omega (arith, c.if-from-place.true, on.at_is, c.from.ensures));
      least = omega (arith, c.loop-index.invariant.least, c.tick.ensures);
      most = omega (arith, c.loop-index.invariant.most, c.tick.ensures);
    }

pub loop-index-preserved : goal.loop-index-preserved
loop-index-preserved g c =
    let vs = items_of c.args.old.now.cells in
    let i = c.loop-index.index in
    let n = c.pass_unmarked-past.result.count in
    let here : Reads vs c.loop-index.items i c.loop-index.end = record { within = c.loop-index.invariant.within; left_is = c.loop-index.invariant.items; at_is = c.loop-index.invariant.end } in
    let on = reads-on vs c.loop-index.items c.pass_unmarked-past.new.items i c.loop-index.end n c.pass_unmarked-past.result.frames
    here c.pass_unmarked-past.ensures.within c.pass_unmarked-past.ensures.left c.pass_unmarked-past.ensures.frames in
    let bare = more-unmarked c.args.splits.now c.args.place c.args.old.now c.loop-index.track n i c.loop-index.items c.loop-index.invariant.items c.pass_unmarked-past.ensures.within
    c.requires.marked c.pass_unmarked-past.ensures.unmarked c.loop-index.invariant.track in
    let v = c.in-Some.view in
    let read : slice_get vs (i + n) ≡ Some v = left-first vs c.pass_unmarked-past.new.items c.next.new.self (i + n) v on.left_is c.in-Some.ensures.some in
    let next = reads-next vs c.pass_unmarked-past.new.items c.next.new.self (i + n) _ v on c.in-Some.ensures.some in
    record {
      within = next.within;
      items = next.left_is;
      end = next.at_is;
      track =
          more-past c.args.splits.now c.args.place c.args.old.now c.loop-index.track (i + n) v c.a_track_is_kept.ensures bare read (omega (arith, c.if-from-place.false, on.at_is, c.from.ensures));
      least = omega (arith, c.loop-index.invariant.least, c.tick.ensures);
      most = omega (arith, c.loop-index.invariant.most, c.tick.ensures);
    }

pub returns-clause-relinked : goal.returns-clause-relinked
returns-clause-relinked g c =
    c.loop-index.invariant.track ∙ all-links c.args.splits.now c.args.place c.args.old.now c.loop-index.index (omega (arith, c.loop-index-test.false, c.count-count.ensures))

pub loop-index-smaller : goal.loop-index-smaller
loop-index-smaller g c =
    let vs = items_of c.args.old.now.cells in
    let i = c.loop-index.index in
    let n = c.pass_unmarked-past.result.count in
    let here : Reads vs c.loop-index.items i c.loop-index.end = record { within = c.loop-index.invariant.within; left_is = c.loop-index.invariant.items; at_is = c.loop-index.invariant.end } in
    let on = reads-on vs c.loop-index.items c.pass_unmarked-past.new.items i c.loop-index.end n c.pass_unmarked-past.result.frames
    here c.pass_unmarked-past.ensures.within c.pass_unmarked-past.ensures.left c.pass_unmarked-past.ensures.frames in
    let v = c.in-Some.view in
    let read : slice_get vs (i + n) ≡ Some v = left-first vs c.pass_unmarked-past.new.items c.next.new.self (i + n) v on.left_is c.in-Some.ensures.some in
    let next = reads-next vs c.pass_unmarked-past.new.items c.next.new.self (i + n) _ v on c.in-Some.ensures.some in
    omega (arith, next.within, few-kept c.args.old.now c.a_track_is_kept.ensures)

pub returns-in_default-clause-most : goal.returns-in_default-clause-most
returns-in_default-clause-most g c = omega (arith, c.loop-index.invariant.most, c.loop-index.invariant.within)

pub returns-clause-most : goal.returns-clause-most
returns-clause-most g c = omega (arith, c.loop-index.invariant.most, c.loop-index.invariant.within)
