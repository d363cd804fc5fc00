use Rattle.std.proofs.Common.{◌≡◌, ◌+◌, Bool, Some, ◌||◌, length, slice_get, ap, ◌∙◌, arith, refl, take}
use Rattle.std.proofs.lemmas.List.{length-drop}
use Rattle.composables.specs.Items.{items_of}
use Rattle.composables.proofs.Pieces.{left-first}
use Rattle.link_groups.specs.Marks.{is_marked}
use Rattle.link_groups.specs.Splits.{is_key_of}
use Rattle.link_groups.proofs.Bare.{bare-cells, bare-keys, bare-take, or_none}
use Rattle.link_groups.proofs.LeastLinks.{filled-at, frames-more, frames-within}
use Rattle.link_groups.proofs.LinkedCells.{front-again, front-whole}
use Rattle.link_groups.proofs.PassedOver.{few-kept, front-all, front-bare, Reads, reads-next, reads-none, reads-on}
use Rattle.link_groups.proofs.splits.mark_before.Goals as goal

pub returns-then-not-has_links-clause-marks : goal.returns-then-not-has_links-clause-marks
returns-then-not-has_links-clause-marks g c q =
    let bare = bare-cells c.args.track.now c.a_track_is_kept.ensures (c.if-not-has_links.ensures.none refl) in
    or_none _ _ (bare-keys q (take c.args.x c.args.track.now.cells) (bare-take c.args.x c.args.track.now.cells bare))

pub overflow_add-index : goal.overflow_add-index
overflow_add-index g c =
    let vs = items_of c.args.track.now.cells in
    let i = c.loop-index.index in
    let n = c.pass_unlinked-passed.result.count in
    let here : Reads vs c.loop-index.items i c.loop-index.at = record { within = c.loop-index.invariant.within; left_is = c.loop-index.invariant.items; at_is = c.loop-index.invariant.at } in
    let on = reads-on vs c.loop-index.items c.pass_unlinked-passed.new.self i c.loop-index.at n c.pass_unlinked-passed.result.places
    here c.pass_unlinked-passed.ensures.within c.pass_unlinked-passed.ensures.left c.pass_unlinked-passed.ensures.frames in
    omega (arith, on.within, few-kept c.args.track.now c.a_track_is_kept.ensures)

pub overflow_add-at : goal.overflow_add-at
overflow_add-at g c =
    let vs = items_of c.args.track.now.cells in
    let i = c.loop-index.index in
    let n = c.pass_unlinked-passed.result.count in
    let here : Reads vs c.loop-index.items i c.loop-index.at = record { within = c.loop-index.invariant.within; left_is = c.loop-index.invariant.items; at_is = c.loop-index.invariant.at } in
    let on = reads-on vs c.loop-index.items c.pass_unlinked-passed.new.self i c.loop-index.at n c.pass_unlinked-passed.result.places
    here c.pass_unlinked-passed.ensures.within c.pass_unlinked-passed.ensures.left c.pass_unlinked-passed.ensures.frames in
    omega (arith, on.at_is, frames-within c.args.track.now (i + n) c.a_track_is_kept.ensures)

pub returns-then-at-x-clause-marks : goal.returns-then-at-x-clause-marks
returns-then-at-x-clause-marks g c q =
    let vs = items_of c.args.track.now.cells in
    let i = c.loop-index.index in
    let n = c.pass_unlinked-passed.result.count in
    let here : Reads vs c.loop-index.items i c.loop-index.at = record { within = c.loop-index.invariant.within; left_is = c.loop-index.invariant.items; at_is = c.loop-index.invariant.at } in
    let on = reads-on vs c.loop-index.items c.pass_unlinked-passed.new.self i c.loop-index.at n c.pass_unlinked-passed.result.places
    here c.pass_unlinked-passed.ensures.within c.pass_unlinked-passed.ensures.left c.pass_unlinked-passed.ensures.frames in
    c.loop-index.invariant.marks q
    ∙ ap (λ (b : Bool). is_marked c.args.marks.now q || b)
    (front-bare q c.args.x i n vs c.loop-index.items c.loop-index.invariant.items c.pass_unlinked-passed.ensures.unlinked
    ∙ front-whole q c.args.x (i + n) c.args.track.now c.a_track_is_kept.ensures (omega (arith, c.if-at-x.true, on.at_is)))

pub returns-in_default-clause-marks : goal.returns-in_default-clause-marks
returns-in_default-clause-marks g c q =
    let vs = items_of c.args.track.now.cells in
    let i = c.loop-index.index in
    let n = c.pass_unlinked-passed.result.count in
    let here : Reads vs c.loop-index.items i c.loop-index.at = record { within = c.loop-index.invariant.within; left_is = c.loop-index.invariant.items; at_is = c.loop-index.invariant.at } in
    let on = reads-on vs c.loop-index.items c.pass_unlinked-passed.new.self i c.loop-index.at n c.pass_unlinked-passed.result.places
    here c.pass_unlinked-passed.ensures.within c.pass_unlinked-passed.ensures.left c.pass_unlinked-passed.ensures.frames in
    c.loop-index.invariant.marks q
    ∙ ap (λ (b : Bool). is_marked c.args.marks.now q || b)
    (front-bare q c.args.x i n vs c.loop-index.items c.loop-index.invariant.items c.pass_unlinked-passed.ensures.unlinked
    ∙ front-all q c.args.x (i + n) c.args.track.now c.a_track_is_kept.ensures (reads-none vs c.pass_unlinked-passed.new.self (i + n) on.left_is (c.in_default.ensures.none refl).0))

pub overflow_add-index-in-loop-index : goal.overflow_add-index-in-loop-index
overflow_add-index-in-loop-index g c =
    let vs = items_of c.args.track.now.cells in
    let i = c.loop-index.index in
    let n = c.pass_unlinked-passed.result.count in
    let here : Reads vs c.loop-index.items i c.loop-index.at = record { within = c.loop-index.invariant.within; left_is = c.loop-index.invariant.items; at_is = c.loop-index.invariant.at } in
    let on = reads-on vs c.loop-index.items c.pass_unlinked-passed.new.self i c.loop-index.at n c.pass_unlinked-passed.result.places
    here c.pass_unlinked-passed.ensures.within c.pass_unlinked-passed.ensures.left c.pass_unlinked-passed.ensures.frames in
    let v = c.in-Some.view in
    let read : slice_get vs (i + n) ≡ Some v = left-first vs c.pass_unlinked-passed.new.self c.next.new.self (i + n) v on.left_is c.in-Some.ensures.some in
    omega (arith, (reads-next vs c.pass_unlinked-passed.new.self c.next.new.self (i + n) _ v on c.in-Some.ensures.some).within, few-kept c.args.track.now c.a_track_is_kept.ensures)

pub overflow_add-at-in-loop-index : goal.overflow_add-at-in-loop-index
overflow_add-at-in-loop-index g c =
    let vs = items_of c.args.track.now.cells in
    let i = c.loop-index.index in
    let n = c.pass_unlinked-passed.result.count in
    let here : Reads vs c.loop-index.items i c.loop-index.at = record { within = c.loop-index.invariant.within; left_is = c.loop-index.invariant.items; at_is = c.loop-index.invariant.at } in
    let on = reads-on vs c.loop-index.items c.pass_unlinked-passed.new.self i c.loop-index.at n c.pass_unlinked-passed.result.places
    here c.pass_unlinked-passed.ensures.within c.pass_unlinked-passed.ensures.left c.pass_unlinked-passed.ensures.frames in
    let v = c.in-Some.view in
    let read : slice_get vs (i + n) ≡ Some v = left-first vs c.pass_unlinked-passed.new.self c.next.new.self (i + n) v on.left_is c.in-Some.ensures.some in
    omega (arith, on.at_is, frames-more vs (i + n) v read, frames-within c.args.track.now (i + n + 1) c.a_track_is_kept.ensures)

pub loop-index-preserved : goal.loop-index-preserved
loop-index-preserved g c =
    let vs = items_of c.args.track.now.cells in
    let i = c.loop-index.index in
    let n = c.pass_unlinked-passed.result.count in
    let here : Reads vs c.loop-index.items i c.loop-index.at = record { within = c.loop-index.invariant.within; left_is = c.loop-index.invariant.items; at_is = c.loop-index.invariant.at } in
    let on = reads-on vs c.loop-index.items c.pass_unlinked-passed.new.self i c.loop-index.at n c.pass_unlinked-passed.result.places
    here c.pass_unlinked-passed.ensures.within c.pass_unlinked-passed.ensures.left c.pass_unlinked-passed.ensures.frames in
    let v = c.in-Some.view in
    let read : slice_get vs (i + n) ≡ Some v = left-first vs c.pass_unlinked-passed.new.self c.next.new.self (i + n) v on.left_is c.in-Some.ensures.some in
    let next = reads-next vs c.pass_unlinked-passed.new.self c.next.new.self (i + n) _ v on c.in-Some.ensures.some in
    record {
      within = next.within;
      items = next.left_is;
      at = next.at_is;
      marks = λ q.
          c.in_ok-add.ensures q
          ∙ (ap (λ (b : Bool). b || is_key_of q v.link)
          (c.loop-index.invariant.marks q ∙ ap (λ (b : Bool). is_marked c.args.marks.now q || b) (front-bare q c.args.x i n vs c.loop-index.items c.loop-index.invariant.items c.pass_unlinked-passed.ensures.unlinked))
          ∙ front-again q c.args.x (i + n) vs v (is_marked c.args.marks.now q) read
          (omega (arith, c.if-at-x.false, on.at_is))
          (filled-at vs (i + n) v read c.a_track_is_kept.ensures.each));
      least = omega (arith, c.loop-index.invariant.least, c.tick.ensures);
      most = omega (arith, c.loop-index.invariant.most, c.tick.ensures);
    }

pub returns-clause-marks : goal.returns-clause-marks
returns-clause-marks g c q =
    c.loop-index.invariant.marks q
    ∙ ap (λ (b : Bool). is_marked c.args.marks.now q || b)
    (front-all q c.args.x c.loop-index.index c.args.track.now c.a_track_is_kept.ensures (omega (arith, c.loop-index-test.false, c.count-count.ensures)))

pub loop-index-smaller : goal.loop-index-smaller
loop-index-smaller g c =
    let vs = items_of c.args.track.now.cells in
    let i = c.loop-index.index in
    let n = c.pass_unlinked-passed.result.count in
    let here : Reads vs c.loop-index.items i c.loop-index.at = record { within = c.loop-index.invariant.within; left_is = c.loop-index.invariant.items; at_is = c.loop-index.invariant.at } in
    let on = reads-on vs c.loop-index.items c.pass_unlinked-passed.new.self i c.loop-index.at n c.pass_unlinked-passed.result.places
    here c.pass_unlinked-passed.ensures.within c.pass_unlinked-passed.ensures.left c.pass_unlinked-passed.ensures.frames in
    let v = c.in-Some.view in
    let read : slice_get vs (i + n) ≡ Some v = left-first vs c.pass_unlinked-passed.new.self c.next.new.self (i + n) v on.left_is c.in-Some.ensures.some in
    omega (arith, (reads-next vs c.pass_unlinked-passed.new.self c.next.new.self (i + n) _ v on c.in-Some.ensures.some).within, few-kept c.args.track.now c.a_track_is_kept.ensures)
