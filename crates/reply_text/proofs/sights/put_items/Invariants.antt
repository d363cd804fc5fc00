use Rattle.std.proofs.Common.{◌≡◌, ◌++◌, drop}
use Rattle.std.specs.List.{flat_map}
use Rattle.reply_text.specs.Sights.{item_text}
use Rattle.reply_text.proofs.sights.put_items.Given as goal

-- what is written so far, and the items to come
abbrev pub invariant-loop-item : goal.invariant-loop-item
invariant-loop-item l = l.out.items ++ flat_map item_text (drop l.item-index l.items) ≡ l.fn.out.items ++ flat_map item_text l.items
