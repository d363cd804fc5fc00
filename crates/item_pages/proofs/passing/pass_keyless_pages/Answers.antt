use Rattle.std.proofs.Common.{arith}
use Rattle.item_pages.specs.declared.spans.Wanted.TheVariants.{Numbered}
use Rattle.item_pages.proofs.Fronts.{front_count, front_more, front_none, front_places, passed_all, passed_to}
use Rattle.item_pages.proofs.passing.pass_keyless_pages.Goals as goal

pub loop-index-init : goal.loop-index-init
loop-index-init g c = front_none g.T.Spanned.places g.T.Spanned.keyed g.T.Spanned.set (Numbered c.args.key) c.args.pages.now

pub returns-then-may_have_key : goal.returns-then-may_have_key
returns-then-may_have_key g c =
    passed_to g.T.Spanned.places g.T.Spanned.keyed g.T.Spanned.set (Numbered c.args.key) c.args.pages.now c.split_at.result.1.now c.loop-index.index _ c.split_at.ensures.back c.loop-index.invariant

pub overflow_add-count : goal.overflow_add-count
overflow_add-count g c =
    omega (arith, c.requires.0, front_count c.args.pages.now c.loop-index.index c.loop-index.count c.count-count.result c.index-pages-index.result c.loop-index-test.true c.index-pages-index.is c.loop-index.invariant.count_is c.count-count.ensures.count)

pub overflow_add-places : goal.overflow_add-places
overflow_add-places g c =
    omega (arith, c.requires.1, front_places g.T.Spanned.places c.args.pages.now c.loop-index.index c.loop-index.places c.span-places.result c.index-pages-index.result c.loop-index-test.true c.index-pages-index.is c.loop-index.invariant.places_is c.span-places.ensures.span)

pub loop-index-preserved : goal.loop-index-preserved
loop-index-preserved g c =
    front_more g.T.Spanned.places g.T.Spanned.keyed g.T.Spanned.set (Numbered c.args.key) c.args.pages.now c.loop-index.index c.loop-index.count c.loop-index.places c.count-count.result c.span-places.result c.index-pages-index.result
    c.loop-index-test.true c.index-pages-index.is c.loop-index.invariant c.count-count.ensures.count c.span-places.ensures.span (c.may_have_key.ensures c.if-may_have_key.false)

pub returns : goal.returns
returns g c =
    passed_all g.T.Spanned.places g.T.Spanned.keyed g.T.Spanned.set (Numbered c.args.key) c.args.pages.now c.loop-index.index _ c.loop-index.invariant (omega (arith, c.loop-index-test.false))
