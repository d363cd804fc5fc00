use Rattle.std.proofs.Common.{◌≡◌, take}
use Rattle.item_pages.specs.Packing.{items_of}
use Rattle.item_pages.proofs.list.Pages.to_vec.Given as goal

abbrev pub invariant-loop-block : goal.invariant-loop-block
invariant-loop-block g l = l.all.items ≡ items_of (items_of (take l.block-index l.block-items))
