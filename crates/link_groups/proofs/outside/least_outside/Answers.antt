use Rattle.std.proofs.Common.{Option, take, ap, sym, ◌∙◌, arith}
use Rattle.std.proofs.lemmas.List.Sums.{sum_by_more}
use Rattle.frame_meaning.specs.declared.cells.Link.{Link}
use Rattle.composables.specs.Links.{cells_from, least_link, least_outside}
use Rattle.composables.specs.Sizes.{size_of}
use Rattle.link_groups.proofs.LeastLinks.{tracks-all, tracks-more}
use Rattle.link_groups.proofs.outside.least_outside.Goals as goal

pub least_on-requires : goal.least_on-requires
least_on-requires g c = c.first.ensures c.args.y c.track-item.result

pub loop-track-preserved : goal.loop-track-preserved
loop-track-preserved g c = record {
  least =
      c.least_link-least.ensures
      ∙ (ap (λ (o : Option Link). least_link o c.least_on.result) c.loop-track.invariant.least
      ∙ (ap (least_link (least_outside c.args.named.now (cells_from c.args.y (take c.loop-track.track-index c.args.named.now)))) c.least_on.ensures.least
      ∙ sym (tracks-more c.args.named.now c.args.y c.loop-track.track-index c.args.named.now c.track-item.result c.loop-track-test.true c.track-item.is)));
  from = omega (arith, c.loop-track.invariant.from, c.least_on.ensures.from);
  most = omega (arith, c.loop-track.invariant.most, c.least_on.ensures.most, ap size_of c.track-item.is, sum_by_more size_of c.args.named.now c.loop-track.track-index c.track-item.result c.loop-track-test.true);
}

pub returns-clause-least : goal.returns-clause-least
returns-clause-least g c = c.loop-track.invariant.least ∙ tracks-all c.args.named.now c.args.y c.loop-track.track-index c.args.named.now c.loop-track-test.false
