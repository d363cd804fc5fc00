use Rattle.std.proofs.Common.{arith}
use Rattle.item_pages.proofs.Keying.{and_first, and_second, keys_all, keys_more}
use Rattle.item_pages.proofs.held.push_keys.Goals as goal

pub loop-item-preserved : goal.loop-item-preserved
loop-item-preserved g c =
    λ both. keys_more g.T.Spanned.keyed c.loop-item.keys.items c.push_key.new.keys.items c.args.items.now c.loop-item.item-index c.item-item.result
    c.loop-item-test.true c.item-item.is c.in_ok-known.ensures.kept
    (c.loop-item.invariant (and_first c.loop-item.known c.in_ok-known.field-0 both))
    (c.in_ok-known.ensures.row (and_second c.loop-item.known c.in_ok-known.field-0 both) (g.T.Spanned.keyed c.item-item.result) c.key.ensures)

pub returns : goal.returns
returns g c = λ known. keys_all g.T.Spanned.keyed c.loop-item.keys.items c.args.items.now c.loop-item.item-index (omega (arith, c.loop-item-test.false)) (c.loop-item.invariant known)
