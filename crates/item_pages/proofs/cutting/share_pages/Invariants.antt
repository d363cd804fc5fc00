use Rattle.std.proofs.Common.{◌≡◌, ◌++◌, take}
use Rattle.item_pages.proofs.cutting.share_pages.Given as goal

abbrev pub invariant-loop-page : goal.invariant-loop-page
invariant-loop-page g l = l.all.items ≡ l.fn.all.items ++ take l.page-index l.pages
