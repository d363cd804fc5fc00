use Rattle.std.proofs.Common.{◌<◌, get_or, length, sym, ap, ◌∙◌, arith, subst}
use Rattle.std.proofs.lemmas.List.Sums.{sum_by_more, sum_by_more_le}
use Rattle.composables.specs.Sizes.{size_of}
use Rattle.composables.specs.TrackState.{TrackState}
use Rattle.link_groups.specs.FoundItems.{IsFound}
use Rattle.link_groups.proofs.AllFound.{found-more, set-length, there-step}
use Rattle.link_groups.proofs.Linked.{not-there}
use Rattle.link_groups.proofs.linking.find_all.Goals as goal

pub returns-then-named-items-clause-there : goal.returns-then-named-items-clause-there
returns-then-named-items-clause-there g c = sym (not-there c.args.named.now c.args.items.now c.if-named-items.true)

pub returns-in-None-clause-most : goal.returns-in-None-clause-most
returns-in-None-clause-most g c =
    omega (arith, c.item_on.ensures.most, c.loop-index.invariant.most, ap size_of c.index-named-index.is, sum_by_more_le size_of c.args.named.now c.loop-index.index c.index-named-index.result c.loop-index-test.true)

pub loop-index-preserved : goal.loop-index-preserved
loop-index-preserved g c =
    let i = c.loop-index.invariant in
    let n = c.loop-index.index in
    let there : n < length c.args.items.now = omega (arith, c.loop-index-test.true, c.if-named-items.false) in
    let room : n < length c.loop-index.found = omega (arith, c.loop-index-test.true, c.requires.room, i.room) in
    let one : IsFound c.index-named-index.result (get_or c.args.items.now n 0) c.in-Some.item = record { found = c.in-Some.ensures.found; read = c.in-Some.ensures.read; number = c.in-Some.ensures.number } in
    record {
      there = i.there ∙ there-step n c.args.named.now c.args.items.now c.index-named-index.result (c.in-Some.item.from, c.in-Some.item.view) c.loop-index-test.true there c.index-named-index.is c.in-Some.ensures.found;
      found =
          found-more n c.args.named.now c.args.items.now c.loop-index.found c.in-Some.item c.index-named-index.result 0 i.found c.loop-index-test.true there room
          (subst (λ (t : TrackState). IsFound t (get_or c.args.items.now n 0) c.in-Some.item) c.index-named-index.is one);
      room = set-length c.loop-index.found n c.in-Some.item ∙ i.room;
      least = omega (arith, i.least, c.item_on.ensures.least);
      most = omega (arith, i.most, c.item_on.ensures.most, ap size_of c.index-named-index.is, sum_by_more size_of c.args.named.now n c.index-named-index.result c.loop-index-test.true);
    }
