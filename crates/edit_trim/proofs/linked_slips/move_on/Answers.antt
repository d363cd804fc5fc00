use Rattle.std.proofs.Common.{◌≡◌, ◌+◌, Some, drop, length, refl, slice_get, sym, ap, ◌∙◌, arith}
use Rattle.composables.specs.Items.{items_of}
use Rattle.composables.specs.TrackState.{TrackState}
use Rattle.composables.proofs.Pieces.{got_within, left-first, left-rest}
use Rattle.edit_trim.specs.LinkedSlips.{back_of, on_of}
use Rattle.edit_trim.proofs.LinkedMoves.{count-part, end-part, good-part, more-part, moves-part, same-part, source-part, start-part}
use Rattle.edit_trim.proofs.Others.{part-others}
use Rattle.link_groups.proofs.Others.{left-past, past-within}
use Rattle.link_groups.proofs.LeastLinks.{filled-at}
use Rattle.link_groups.proofs.PassedOver.{reads-none}
use Rattle.edit_trim.proofs.linked_slips.move_on.Goals as goal
use Rattle.edit_trim.proofs.linked_slips.move_on.Goals.{then-carries+in_ok-set_source, else-carries}

pub loop-index-init : goal.loop-index-init
loop-index-init g c = record {
  within = omega arith;
  items = c.at-items.ensures ∙ ap (λ (t : TrackState). drop 0 (items_of t.cells)) c.in_ok-old.ensures;
  part = start-part c.args.table.now c.args.link (on_of c.args.way) (back_of c.args.way) c.args.track.now c.requires.good;
  from = omega arith;
  most = omega arith;
}

pub overflow_add-index : goal.overflow_add-index
overflow_add-index g c =
    let vs = items_of c.args.track.now.cells in
    let i = c.loop-index.index in
    let n = c.pass_others-passed.result.count in
    let fits = past-within vs c.loop-index.items i n c.loop-index.invariant.within c.loop-index.invariant.items c.pass_others-passed.ensures.within in
    let left = left-past vs c.loop-index.items c.pass_others-passed.new.self i n c.loop-index.invariant.items c.pass_others-passed.ensures.left in
    omega (arith, fits, c.requires.good.items)

pub returns-in_default-clause-moved : goal.returns-in_default-clause-moved
returns-in_default-clause-moved g c =
    let vs = items_of c.args.track.now.cells in
    let i = c.loop-index.index in
    let n = c.pass_others-passed.result.count in
    let fits = past-within vs c.loop-index.items i n c.loop-index.invariant.within c.loop-index.invariant.items c.pass_others-passed.ensures.within in
    let left = left-past vs c.loop-index.items c.pass_others-passed.new.self i n c.loop-index.invariant.items c.pass_others-passed.ensures.left in
    let past = part-others c.args.table.now c.args.link (on_of c.args.way) (back_of c.args.way) i n c.args.track.now c.loop-index.track c.loop-index.items c.loop-index.invariant.within c.loop-index.invariant.items c.pass_others-passed.ensures.within c.pass_others-passed.ensures.others c.loop-index.invariant.part in
    end-part c.args.table.now c.args.link (on_of c.args.way) (back_of c.args.way) (i + n) c.args.track.now c.loop-index.track c.requires.good c.requires.moves past (reads-none vs c.pass_others-passed.new.self (i + n) left (c.in_default.ensures.none refl).0)

pub returns-in_default-clause-most : goal.returns-in_default-clause-most
returns-in_default-clause-most g c = omega (arith, c.loop-index.invariant.most, c.loop-index.invariant.within)

pub moved_source-requires-clause-filled : goal.moved_source-requires-clause-filled
moved_source-requires-clause-filled g c =
    let vs = items_of c.args.track.now.cells in
    let i = c.loop-index.index in
    let n = c.pass_others-passed.result.count in
    let fits = past-within vs c.loop-index.items i n c.loop-index.invariant.within c.loop-index.invariant.items c.pass_others-passed.ensures.within in
    let left = left-past vs c.loop-index.items c.pass_others-passed.new.self i n c.loop-index.invariant.items c.pass_others-passed.ensures.left in
    let read : slice_get vs (i + n) ≡ Some c.in-Some.view = left-first vs c.pass_others-passed.new.self c.next.new.self (i + n) c.in-Some.view left c.in-Some.ensures.some in
    let rest = left-rest vs c.pass_others-passed.new.self c.next.new.self (i + n) c.in-Some.view left c.in-Some.ensures.some in
    let low = got_within vs (i + n) c.in-Some.view read in
    filled-at vs (i + n) c.in-Some.view read c.requires.good.kept.each

pub moved_source-requires-clause-reaches : goal.moved_source-requires-clause-reaches
moved_source-requires-clause-reaches g c =
    let vs = items_of c.args.track.now.cells in
    let i = c.loop-index.index in
    let n = c.pass_others-passed.result.count in
    let fits = past-within vs c.loop-index.items i n c.loop-index.invariant.within c.loop-index.invariant.items c.pass_others-passed.ensures.within in
    let left = left-past vs c.loop-index.items c.pass_others-passed.new.self i n c.loop-index.invariant.items c.pass_others-passed.ensures.left in
    let read : slice_get vs (i + n) ≡ Some c.in-Some.view = left-first vs c.pass_others-passed.new.self c.next.new.self (i + n) c.in-Some.view left c.in-Some.ensures.some in
    let rest = left-rest vs c.pass_others-passed.new.self c.next.new.self (i + n) c.in-Some.view left c.in-Some.ensures.some in
    let low = got_within vs (i + n) c.in-Some.view read in
    (moves-part c.args.table.now c.args.link (on_of c.args.way) (back_of c.args.way) (i + n) c.args.track.now c.in-Some.view c.requires.moves read (sym c.carries.ensures ∙ c.if-carries.true)).reaches

pub moved_source-requires-clause-source : goal.moved_source-requires-clause-source
moved_source-requires-clause-source g c =
    let vs = items_of c.args.track.now.cells in
    let i = c.loop-index.index in
    let n = c.pass_others-passed.result.count in
    let fits = past-within vs c.loop-index.items i n c.loop-index.invariant.within c.loop-index.invariant.items c.pass_others-passed.ensures.within in
    let left = left-past vs c.loop-index.items c.pass_others-passed.new.self i n c.loop-index.invariant.items c.pass_others-passed.ensures.left in
    let read : slice_get vs (i + n) ≡ Some c.in-Some.view = left-first vs c.pass_others-passed.new.self c.next.new.self (i + n) c.in-Some.view left c.in-Some.ensures.some in
    let rest = left-rest vs c.pass_others-passed.new.self c.next.new.self (i + n) c.in-Some.view left c.in-Some.ensures.some in
    let low = got_within vs (i + n) c.in-Some.view read in
    source-part c.args.table.now c.in-Some.view _ (on_of c.args.way) (back_of c.args.way)
    (moves-part c.args.table.now c.args.link (on_of c.args.way) (back_of c.args.way) (i + n) c.args.track.now c.in-Some.view c.requires.moves read (sym c.carries.ensures ∙ c.if-carries.true))

pub set_source-requires-clause-within : goal.set_source-requires-clause-within
set_source-requires-clause-within g c =
    let vs = items_of c.args.track.now.cells in
    let i = c.loop-index.index in
    let n = c.pass_others-passed.result.count in
    let fits = past-within vs c.loop-index.items i n c.loop-index.invariant.within c.loop-index.invariant.items c.pass_others-passed.ensures.within in
    let left = left-past vs c.loop-index.items c.pass_others-passed.new.self i n c.loop-index.invariant.items c.pass_others-passed.ensures.left in
    let read : slice_get vs (i + n) ≡ Some c.in-Some.view = left-first vs c.pass_others-passed.new.self c.next.new.self (i + n) c.in-Some.view left c.in-Some.ensures.some in
    let rest = left-rest vs c.pass_others-passed.new.self c.next.new.self (i + n) c.in-Some.view left c.in-Some.ensures.some in
    let low = got_within vs (i + n) c.in-Some.view read in
    let past = part-others c.args.table.now c.args.link (on_of c.args.way) (back_of c.args.way) i n c.args.track.now c.loop-index.track c.loop-index.items c.loop-index.invariant.within c.loop-index.invariant.items c.pass_others-passed.ensures.within c.pass_others-passed.ensures.others c.loop-index.invariant.part in
    let count = count-part c.args.table.now c.args.link (on_of c.args.way) (back_of c.args.way) (i + n) c.args.track.now c.loop-index.track c.requires.good c.requires.moves past in
    omega (arith, low, count)

pub set_source-requires-clause-kept : goal.set_source-requires-clause-kept
set_source-requires-clause-kept g c =
    let vs = items_of c.args.track.now.cells in
    let i = c.loop-index.index in
    let n = c.pass_others-passed.result.count in
    let fits = past-within vs c.loop-index.items i n c.loop-index.invariant.within c.loop-index.invariant.items c.pass_others-passed.ensures.within in
    let left = left-past vs c.loop-index.items c.pass_others-passed.new.self i n c.loop-index.invariant.items c.pass_others-passed.ensures.left in
    let read : slice_get vs (i + n) ≡ Some c.in-Some.view = left-first vs c.pass_others-passed.new.self c.next.new.self (i + n) c.in-Some.view left c.in-Some.ensures.some in
    let rest = left-rest vs c.pass_others-passed.new.self c.next.new.self (i + n) c.in-Some.view left c.in-Some.ensures.some in
    let low = got_within vs (i + n) c.in-Some.view read in
    let past = part-others c.args.table.now c.args.link (on_of c.args.way) (back_of c.args.way) i n c.args.track.now c.loop-index.track c.loop-index.items c.loop-index.invariant.within c.loop-index.invariant.items c.pass_others-passed.ensures.within c.pass_others-passed.ensures.others c.loop-index.invariant.part in
    (good-part c.args.table.now c.args.link (on_of c.args.way) (back_of c.args.way) (i + n) c.moved_source.result c.args.track.now c.loop-index.track c.in-Some.view c.requires.good c.requires.moves past read (sym c.carries.ensures ∙ c.if-carries.true) c.moved_source.ensures).kept

pub loop-index-preserved : goal.loop-index-preserved
loop-index-preserved g c =
    let vs = items_of c.args.track.now.cells in
    let i = c.loop-index.index in
    let n = c.pass_others-passed.result.count in
    let fits = past-within vs c.loop-index.items i n c.loop-index.invariant.within c.loop-index.invariant.items c.pass_others-passed.ensures.within in
    let left = left-past vs c.loop-index.items c.pass_others-passed.new.self i n c.loop-index.invariant.items c.pass_others-passed.ensures.left in
    let read : slice_get vs (i + n) ≡ Some c.in-Some.view = left-first vs c.pass_others-passed.new.self c.next.new.self (i + n) c.in-Some.view left c.in-Some.ensures.some in
    let rest = left-rest vs c.pass_others-passed.new.self c.next.new.self (i + n) c.in-Some.view left c.in-Some.ensures.some in
    let low = got_within vs (i + n) c.in-Some.view read in
    let past = part-others c.args.table.now c.args.link (on_of c.args.way) (back_of c.args.way) i n c.args.track.now c.loop-index.track c.loop-index.items c.loop-index.invariant.within c.loop-index.invariant.items c.pass_others-passed.ensures.within c.pass_others-passed.ensures.others c.loop-index.invariant.part in
    elim c.if-carries.branch [
      | then-carries+in_ok-set_source w ↦ record {
        within = omega (arith, low);
        items = rest;
        part =
            w.track-is
            ∙ more-part c.args.table.now c.args.link (on_of c.args.way) (back_of c.args.way) (i + n) w.moved_source.result c.args.track.now c.loop-index.track w.set_source.new.self c.in-Some.view c.requires.good c.requires.moves past read
            (sym c.carries.ensures ∙ w.if-carries.true) w.moved_source.ensures w.in_ok-set_source.ensures.ok;
        from = omega (arith, c.loop-index.invariant.from, c.tick.ensures);
        most = omega (arith, c.loop-index.invariant.most, c.tick.ensures);
      }
      | else-carries w ↦ record {
        within = omega (arith, low);
        items = rest;
        part =
            w.track-is
            ∙ same-part c.args.table.now c.args.link (on_of c.args.way) (back_of c.args.way) (i + n) c.args.track.now c.loop-index.track c.in-Some.view past read
            (sym c.carries.ensures ∙ w.if-carries.false);
        from = omega (arith, c.loop-index.invariant.from, c.tick.ensures);
        most = omega (arith, c.loop-index.invariant.most, c.tick.ensures);
      }
    ]

pub returns-clause-moved : goal.returns-clause-moved
returns-clause-moved g c =
    end-part c.args.table.now c.args.link (on_of c.args.way) (back_of c.args.way) c.loop-index.index c.args.track.now c.loop-index.track c.requires.good c.requires.moves c.loop-index.invariant.part
    (omega (arith, c.loop-index-test.false, c.count-count.ensures, ap (λ (t : TrackState). length (items_of t.cells)) c.in_ok-old.ensures))

pub returns-clause-most : goal.returns-clause-most
returns-clause-most g c = omega (arith, c.loop-index.invariant.most, c.loop-index.invariant.within)

pub loop-index-smaller : goal.loop-index-smaller
loop-index-smaller g c =
    let vs = items_of c.args.track.now.cells in
    let i = c.loop-index.index in
    let n = c.pass_others-passed.result.count in
    let fits = past-within vs c.loop-index.items i n c.loop-index.invariant.within c.loop-index.invariant.items c.pass_others-passed.ensures.within in
    let left = left-past vs c.loop-index.items c.pass_others-passed.new.self i n c.loop-index.invariant.items c.pass_others-passed.ensures.left in
    let read : slice_get vs (i + n) ≡ Some c.in-Some.view = left-first vs c.pass_others-passed.new.self c.next.new.self (i + n) c.in-Some.view left c.in-Some.ensures.some in
    let rest = left-rest vs c.pass_others-passed.new.self c.next.new.self (i + n) c.in-Some.view left c.in-Some.ensures.some in
    let low = got_within vs (i + n) c.in-Some.view read in
    omega (arith, low)
