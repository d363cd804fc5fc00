use Rattle.std.proofs.Common.{◌≡◌, ◌++◌, take}
use Rattle.item_pages.specs.Packing.{items_of}
use Rattle.item_pages.proofs.list.push_items.Given as goal

abbrev pub invariant-loop-page : goal.invariant-loop-page
invariant-loop-page g l = l.all.items ≡ l.fn.all.items ++ items_of (take l.page-index l.pages)
