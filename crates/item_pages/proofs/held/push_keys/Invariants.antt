use Rattle.std.proofs.Common.{◌≡◌, true, take}
use Rattle.item_pages.specs.Keys.{HoldsKeys}
use Rattle.item_pages.proofs.held.push_keys.Given as goal

abbrev pub invariant-loop-item : goal.invariant-loop-item
invariant-loop-item g l = l.known ≡ true → HoldsKeys g.T.Spanned.keyed l.keys.items (take l.item-index l.items)
