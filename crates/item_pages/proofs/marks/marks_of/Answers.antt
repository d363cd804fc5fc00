use Rattle.std.proofs.Common.{arith}
use Rattle.item_pages.proofs.Marking.{each_held, marks_more}
use Rattle.item_pages.proofs.marks.marks_of.Goals as goal

pub loop-item-preserved : goal.loop-item-preserved
loop-item-preserved g c =
    marks_more g.T.Spanned.numbered g.T.Spanned.set c.loop-item.marks c.add_number.new.self c.add_bits.new.self c.args.items.now c.loop-item.item-index c.item-item.result
    c.number.result c.bits.result c.loop-item-test.true c.item-item.is c.loop-item.invariant c.add_number.ensures.grows c.add_bits.ensures.grows
    c.add_number.ensures.marked c.number.ensures c.bits.ensures c.add_bits.ensures.marked

pub returns : goal.returns
returns g c = each_held g.T.Spanned.numbered g.T.Spanned.set c.loop-item.marks c.args.items.now c.loop-item.item-index (omega (arith, c.loop-item-test.false)) c.loop-item.invariant
