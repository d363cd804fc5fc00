use Rattle.std.proofs.Common.{◌<◌, get_or, length, refl, ap, ◌∙◌, arith}
use Rattle.link_groups.proofs.AllFound.{link-one, link-within}
use Rattle.link_groups.proofs.Linked.{as-many, part-all, part-length, part-more}
use Rattle.link_groups.proofs.linking.link_all.Goals as goal

pub index_mut-requires : goal.index_mut-requires
index_mut-requires c =
    omega (arith, ap length c.loop-index.invariant, part-length c.args.made c.loop-index.index c.args.named.now.items c.args.items.now, as-many c.args.named.now.items c.args.items.now c.requires.there, c.loop-index-test.true)

pub set_link-requires-clause-within : goal.set_link-requires-clause-within
set_link-requires-clause-within c =
    let lt : c.loop-index.index < length c.args.named.now.items = omega (arith, as-many c.args.named.now.items c.args.items.now c.requires.there, c.loop-index-test.true) in
    link-within c.args.made c.loop-index.index c.args.named.now.items c.loop-index.named.items c.args.items.now c.args.found.now c.index_mut.result.now c.loop-index.invariant c.index_mut.ensures.value c.requires.found lt

pub set_link-requires-clause-kept : goal.set_link-requires-clause-kept
set_link-requires-clause-kept c =
    let lt : c.loop-index.index < length c.args.named.now.items = omega (arith, as-many c.args.named.now.items c.args.items.now c.requires.there, c.loop-index-test.true) in
    (link-one c.args.table.now c.args.made c.loop-index.index c.args.named.now.items c.loop-index.named.items c.args.items.now c.args.found.now c.index_mut.result.now c.loop-index.invariant c.index_mut.ensures.value c.requires.found lt c.requires.good c.requires.of).good.kept

pub loop-index-preserved : goal.loop-index-preserved
loop-index-preserved c =
    let lt : c.loop-index.index < length c.args.named.now.items = omega (arith, as-many c.args.named.now.items c.args.items.now c.requires.there, c.loop-index-test.true) in
    let r = link-one c.args.table.now c.args.made c.loop-index.index c.args.named.now.items c.loop-index.named.items c.args.items.now c.args.found.now c.index_mut.result.now c.loop-index.invariant c.index_mut.ensures.value c.requires.found lt c.requires.good c.requires.of in
    part-more c.args.made c.loop-index.index c.args.named.now.items c.loop-index.named.items c.args.items.now c.index_mut.result.now c.set_link.new.self (get_or c.args.items.now c.loop-index.index 0) 0 lt c.loop-index-test.true c.loop-index.invariant c.index_mut.ensures.value refl
    (c.in_ok-set_link.ensures.ok ∙ r.same)

pub returns : goal.returns
returns c = record {
  linked = c.loop-index.invariant ∙ part-all c.args.made c.loop-index.index c.args.named.now.items c.args.items.now (as-many c.args.named.now.items c.args.items.now c.requires.there) c.loop-index-test.false;
}
