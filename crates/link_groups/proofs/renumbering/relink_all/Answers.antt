use Rattle.std.proofs.Common.{◌+◌, ◌<◌, ◌^◌, length, sym, ap, ◌∙◌, arith, subst, unwrap_or}
use Rattle.std.specs.BTreeMap.{get}
use Rattle.std.specs.Ordering.{nat_cmp}
use Rattle.std.proofs.lemmas.List.Sums.{sum_by_more, sum_by_more_le}
use Rattle.composables.specs.Sizes.{size_of}
use Rattle.composables.specs.TrackState.{TrackState}
use Rattle.link_groups.specs.Splits.{relinked_track}
use Rattle.link_groups.proofs.PartTracks.{part-all, part-here, part-more}
use Rattle.link_groups.proofs.renumbering.relink_all.Goals as goal

pub relink_found-requires : goal.relink_found-requires
relink_found-requires g c =
    let lt : c.loop-index.index < length c.args.named.now.items = omega (arith, c.loop-index-test.true, c.len-index-end.ensures, c.args.named.now.ok) in
    let same = part-here (relinked_track c.args.splits.now c.args.place) c.loop-index.index c.args.named.now.items c.loop-index.named.items c.index_mut.result.now c.loop-index.invariant.named c.index_mut.ensures.value in
    record {
      next = subst (λ (t : TrackState). t.next_link + unwrap_or (get nat_cmp c.args.splits.now.counts t.number) 0 < 2 ^ 32) (sym same) (c.requires.next c.loop-index.index c.index_mut.result.now lt);
      marked = c.requires.marked;
    }

pub loop-index-preserved : goal.loop-index-preserved
loop-index-preserved g c =
    let lt : c.loop-index.index < length c.args.named.now.items = omega (arith, c.loop-index-test.true, c.len-index-end.ensures, c.args.named.now.ok) in
    let same = part-here (relinked_track c.args.splits.now c.args.place) c.loop-index.index c.args.named.now.items c.loop-index.named.items c.index_mut.result.now c.loop-index.invariant.named c.index_mut.ensures.value in
    record {
      named =
          part-more (relinked_track c.args.splits.now c.args.place) c.loop-index.index c.args.named.now.items c.loop-index.named.items c.index_mut.result.now c.relink_found.new.track lt c.loop-index.invariant.named c.index_mut.ensures.value
          c.in_ok-relink_found.ensures.relinked;
      least = omega (arith, c.loop-index.invariant.least, c.relink_found.ensures.least);
      most = omega (arith, c.loop-index.invariant.most, c.relink_found.ensures.most, ap size_of same, sum_by_more size_of c.args.named.now.items c.loop-index.index c.index_mut.result.now lt);
    }

pub returns-clause-relinked : goal.returns-clause-relinked
returns-clause-relinked g c =
    c.loop-index.invariant.named ∙ part-all (relinked_track c.args.splits.now c.args.place) c.loop-index.index c.args.named.now.items (omega (arith, c.loop-index-test.false, c.len-index-end.ensures, c.args.named.now.ok))

pub returns-in_err-relink_found-clause-most : goal.returns-in_err-relink_found-clause-most
returns-in_err-relink_found-clause-most g c =
    let lt : c.loop-index.index < length c.args.named.now.items = omega (arith, c.loop-index-test.true, c.len-index-end.ensures, c.args.named.now.ok) in
    let same = part-here (relinked_track c.args.splits.now c.args.place) c.loop-index.index c.args.named.now.items c.loop-index.named.items c.index_mut.result.now c.loop-index.invariant.named c.index_mut.ensures.value in
    omega (arith, c.loop-index.invariant.most, c.relink_found.ensures.most, ap size_of same, sum_by_more_le size_of c.args.named.now.items c.loop-index.index c.index_mut.result.now lt)
