use Rattle.std.proofs.Common.{◌<◌, length, sym, ap, ◌∙◌, arith, subst}
use Rattle.std.proofs.lemmas.List.Sums.{sum_by_more, sum_by_more_le}
use Rattle.composables.specs.Good.{IsGood}
use Rattle.composables.specs.Items.{items_of}
use Rattle.composables.specs.Sizes.{size_of}
use Rattle.composables.specs.TrackState.{TrackState}
use Rattle.edit_trim.specs.LinkedSlips.{EachMoves, back_of, moved_by, on_of}
use Rattle.edit_trim.proofs.LinkedMoves.{moves-there}
use Rattle.link_groups.proofs.PartTracks.{part-all, part-here, part-more}
use Rattle.edit_trim.proofs.linked_slips.move_all.Goals as goal

pub move_on-requires-clause-good : goal.move_on-requires-clause-good
move_on-requires-clause-good g c =
    let lt : c.loop-index.index < length c.args.named.now.items = omega (arith, c.loop-index-test.true, c.args.named.now.ok.0, c.len-index-end.ensures) in
    let same = part-here (moved_by c.args.link c.args.way) c.loop-index.index c.args.named.now.items c.loop-index.named.items c.index_mut.result.now c.loop-index.invariant.named c.index_mut.ensures.value in
    subst (IsGood c.args.table.now) (sym same) (c.requires.good c.loop-index.index c.index_mut.result.now lt)

pub move_on-requires-clause-moves : goal.move_on-requires-clause-moves
move_on-requires-clause-moves g c =
    let lt : c.loop-index.index < length c.args.named.now.items = omega (arith, c.loop-index-test.true, c.args.named.now.ok.0, c.len-index-end.ensures) in
    let same = part-here (moved_by c.args.link c.args.way) c.loop-index.index c.args.named.now.items c.loop-index.named.items c.index_mut.result.now c.loop-index.invariant.named c.index_mut.ensures.value in
    subst (λ (t : TrackState). EachMoves c.args.table.now c.args.link (items_of t.cells) (on_of c.args.way) (back_of c.args.way)) (sym same)
    (moves-there c.args.table.now c.args.link (on_of c.args.way) (back_of c.args.way) c.loop-index.index c.args.named.now.items c.index_mut.result.now lt c.requires.moves)

pub loop-index-preserved : goal.loop-index-preserved
loop-index-preserved g c =
    let lt : c.loop-index.index < length c.args.named.now.items = omega (arith, c.loop-index-test.true, c.args.named.now.ok.0, c.len-index-end.ensures) in
    let same = part-here (moved_by c.args.link c.args.way) c.loop-index.index c.args.named.now.items c.loop-index.named.items c.index_mut.result.now c.loop-index.invariant.named c.index_mut.ensures.value in
    record {
      named = part-more (moved_by c.args.link c.args.way) c.loop-index.index c.args.named.now.items c.loop-index.named.items c.index_mut.result.now c.move_on.new.track lt c.loop-index.invariant.named c.index_mut.ensures.value c.in_ok-move_on.ensures.moved;
      least = omega (arith, c.loop-index.invariant.least, c.move_on.ensures.least);
      most = omega (arith, c.loop-index.invariant.most, c.move_on.ensures.most, ap size_of same, sum_by_more size_of c.args.named.now.items c.loop-index.index c.index_mut.result.now lt);
    }

pub returns-clause-moved : goal.returns-clause-moved
returns-clause-moved g c =
    c.loop-index.invariant.named
    ∙ part-all (moved_by c.args.link c.args.way) c.loop-index.index c.args.named.now.items (omega (arith, c.loop-index-test.false, c.args.named.now.ok.0, c.len-index-end.ensures))

pub returns-in_err-move_on-clause-most : goal.returns-in_err-move_on-clause-most
returns-in_err-move_on-clause-most g c =
    let lt : c.loop-index.index < length c.args.named.now.items = omega (arith, c.loop-index-test.true, c.args.named.now.ok.0, c.len-index-end.ensures) in
    let same = part-here (moved_by c.args.link c.args.way) c.loop-index.index c.args.named.now.items c.loop-index.named.items c.index_mut.result.now c.loop-index.invariant.named c.index_mut.ensures.value in
    omega (arith, c.loop-index.invariant.most, c.move_on.ensures.most, ap size_of same, sum_by_more_le size_of c.args.named.now.items c.loop-index.index c.index_mut.result.now lt)
