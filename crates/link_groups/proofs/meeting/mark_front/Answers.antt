use Rattle.std.proofs.Common.{◌+◌, ◌∙◌, arith, refl, take, true}
use Rattle.composables.specs.Items.{cells_of, items_of}
use Rattle.link_groups.proofs.Bare.{bare-cells, bare-take}
use Rattle.link_groups.proofs.BothSides.{front-all-said, front-said, front-whole-said, said-bare, said-grows}
use Rattle.link_groups.proofs.KeyRows.{in-row, one-pair}
use Rattle.link_groups.proofs.LeastLinks.{frames-within}
use Rattle.link_groups.proofs.PassedOver.{few-kept, Reads, reads-next, reads-none, reads-on}
use Rattle.link_groups.proofs.meeting.mark_front.Goals as goal

pub returns-then-not-has_links-clause-marked : goal.returns-then-not-has_links-clause-marked
returns-then-not-has_links-clause-marked g c =
    said-bare c.args.marks.now true (take c.args.x c.args.track.now.cells)
    (bare-take c.args.x c.args.track.now.cells (bare-cells c.args.track.now c.a_track_is_kept.ensures (c.if-not-has_links.ensures.none refl)))

pub returns-then-at-x-clause-marked : goal.returns-then-at-x-clause-marked
returns-then-at-x-clause-marked g c =
    front-whole-said c.loop-index.marks true c.args.x c.loop-index.index c.args.track.now c.a_track_is_kept.ensures
    (omega (arith, c.if-at-x.true, c.loop-index.invariant.at)) c.loop-index.invariant.marked

pub overflow_add-index : goal.overflow_add-index
overflow_add-index g c =
    let vs = items_of c.args.track.now.cells in
    let here : Reads vs c.loop-index.items c.loop-index.index c.loop-index.at = record { within = c.loop-index.invariant.within; left_is = c.loop-index.invariant.items; at_is = c.loop-index.invariant.at } in
    let on = reads-on vs c.loop-index.items c.pass_row.new.self c.loop-index.index c.loop-index.at c.in-Some.row.count c.in-Some.row.places here c.in-Some.ensures.within c.in-Some.ensures.left c.in-Some.ensures.frames in
    omega (arith, on.within, few-kept c.args.track.now c.a_track_is_kept.ensures)

pub overflow_add-at : goal.overflow_add-at
overflow_add-at g c =
    let vs = items_of c.args.track.now.cells in
    let here : Reads vs c.loop-index.items c.loop-index.index c.loop-index.at = record { within = c.loop-index.invariant.within; left_is = c.loop-index.invariant.items; at_is = c.loop-index.invariant.at } in
    let on = reads-on vs c.loop-index.items c.pass_row.new.self c.loop-index.index c.loop-index.at c.in-Some.row.count c.in-Some.row.places here c.in-Some.ensures.within c.in-Some.ensures.left c.in-Some.ensures.frames in
    omega (arith, on.at_is, frames-within c.args.track.now (c.loop-index.index + c.in-Some.row.count) c.a_track_is_kept.ensures)

pub loop-index-preserved-in-Some : goal.loop-index-preserved-in-Some
loop-index-preserved-in-Some g c =
    let vs = items_of c.args.track.now.cells in
    let i = c.loop-index.index in
    let n = c.in-Some.row.count in
    let here : Reads vs c.loop-index.items i c.loop-index.at = record { within = c.loop-index.invariant.within; left_is = c.loop-index.invariant.items; at_is = c.loop-index.invariant.at } in
    let on = reads-on vs c.loop-index.items c.pass_row.new.self i c.loop-index.at n c.in-Some.row.places here c.in-Some.ensures.within c.in-Some.ensures.left c.in-Some.ensures.frames in
    record {
      within = on.within;
      items = on.left_is;
      at = on.at_is;
      grows = λ k h. c.mark_all.ensures.grows k (c.loop-index.invariant.grows k h);
      marked =
          front-said c.mark_all.new.self true c.args.x i n vs c.loop-index.items c.loop-index.invariant.items
          (λ q e. c.mark_all.ensures.marked _ (in-row q c.in-Some.row.keys.now (take n c.loop-index.items) c.in-Some.ensures.keys e))
          (said-grows c.loop-index.marks c.mark_all.new.self (take c.args.x (cells_of (take i vs))) c.mark_all.ensures.grows c.loop-index.invariant.marked);
      least = omega (arith, c.loop-index.invariant.least, c.tick.ensures);
      most = omega (arith, c.loop-index.invariant.most, c.tick.ensures, c.in-Some.ensures.filled);
    }

pub returns-in_default-clause-marked : goal.returns-in_default-clause-marked
returns-in_default-clause-marked g c =
    front-all-said c.loop-index.marks true c.args.x c.loop-index.index c.args.track.now c.a_track_is_kept.ensures
    (reads-none (items_of c.args.track.now.cells) c.pass_row.new.self c.loop-index.index (c.in-None.ensures.none refl ∙ c.loop-index.invariant.items) (c.in_default.ensures.none refl).0)
    c.loop-index.invariant.marked

pub overflow_add-at-in-None : goal.overflow_add-at-in-None
overflow_add-at-in-None g c =
    let vs = items_of c.args.track.now.cells in
    let same = c.in-None.ensures.none refl in
    let here : Reads vs c.pass_row.new.self c.loop-index.index c.loop-index.at = record { within = c.loop-index.invariant.within; left_is = same ∙ c.loop-index.invariant.items; at_is = c.loop-index.invariant.at } in
    let next = reads-next vs c.pass_row.new.self c.next.new.self c.loop-index.index c.loop-index.at c.in-Some-next.view here c.in-Some-next.ensures.some in
    omega (arith, next.at_is, frames-within c.args.track.now (c.loop-index.index + 1) c.a_track_is_kept.ensures)

pub loop-index-preserved : goal.loop-index-preserved
loop-index-preserved g c =
    let vs = items_of c.args.track.now.cells in
    let i = c.loop-index.index in
    let same = c.in-None.ensures.none refl in
    let here : Reads vs c.pass_row.new.self i c.loop-index.at = record { within = c.loop-index.invariant.within; left_is = same ∙ c.loop-index.invariant.items; at_is = c.loop-index.invariant.at } in
    let next = reads-next vs c.pass_row.new.self c.next.new.self i c.loop-index.at c.in-Some-next.view here c.in-Some-next.ensures.some in
    record {
      within = next.within;
      items = next.left_is;
      at = next.at_is;
      grows = λ k h. c.mark_link.ensures.grows k (c.loop-index.invariant.grows k h);
      marked =
          front-said c.mark_link.new.self true c.args.x i 1 vs c.pass_row.new.self here.left_is
          (λ q e. c.mark_link.ensures.marked q (one-pair q c.in-Some-next.view c.pass_row.new.self c.next.new.self c.in-Some-next.ensures.some e))
          (said-grows c.loop-index.marks c.mark_link.new.self (take c.args.x (cells_of (take i vs))) c.mark_link.ensures.grows c.loop-index.invariant.marked);
      least = omega (arith, c.loop-index.invariant.least, c.tick.ensures);
      most = omega (arith, c.loop-index.invariant.most, c.tick.ensures);
    }

pub returns-clause-marked : goal.returns-clause-marked
returns-clause-marked g c =
    front-all-said c.loop-index.marks true c.args.x c.loop-index.index c.args.track.now c.a_track_is_kept.ensures
    (omega (arith, c.loop-index-test.false, c.count-count.ensures)) c.loop-index.invariant.marked
