use Rattle.std.proofs.Common.{◌≡◌, ◌≤◌, length, take}
use Rattle.item_pages.specs.Packing.{items_of}
use Rattle.item_pages.proofs.packing.count_of_pages.Given as goal

abbrev pub invariant-loop-page : goal.invariant-loop-page
invariant-loop-page g l = record {
  count : l.count ≡ length (items_of (take l.page-index l.pages));
  enough : l.page-index ≤ l.count;
}
