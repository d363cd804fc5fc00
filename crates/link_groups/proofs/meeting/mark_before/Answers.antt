use Rattle.std.proofs.Common.{take, true, ap, arith}
use Rattle.std.proofs.lemmas.List.Sums.{sum_by_more}
use Rattle.composables.specs.Links.{cells_before}
use Rattle.composables.specs.Sizes.{size_of}
use Rattle.link_groups.proofs.BothSides.{before-all, before-more, said-grows}
use Rattle.link_groups.proofs.meeting.mark_before.Goals as goal

pub loop-track-preserved : goal.loop-track-preserved
loop-track-preserved g c = record {
  marked =
      before-more c.mark_front.new.marks true c.args.x c.loop-track.track-index c.args.named.now c.track-item.result c.loop-track-test.true c.track-item.is
      (said-grows c.loop-track.marks c.mark_front.new.marks (cells_before c.args.x (take c.loop-track.track-index c.args.named.now)) c.mark_front.ensures.grows c.loop-track.invariant.marked)
      c.mark_front.ensures.marked;
  least = omega (arith, c.loop-track.invariant.least, c.mark_front.ensures.least);
  most = omega (arith, c.loop-track.invariant.most, c.mark_front.ensures.most, ap size_of c.track-item.is, sum_by_more size_of c.args.named.now c.loop-track.track-index c.track-item.result c.loop-track-test.true);
}

pub returns-clause-marked : goal.returns-clause-marked
returns-clause-marked g c = before-all c.loop-track.marks true c.args.x c.loop-track.track-index c.args.named.now c.loop-track-test.false c.loop-track.invariant.marked
