use Rattle.std.proofs.Common.{◌≡◌, ◌≤◌, ◌+◌, length, take, sum_by}
use Rattle.item_pages.specs.Packing.{items_of}
use Rattle.item_pages.proofs.finding.find_in_pages.Given as goal

abbrev pub invariant-loop-page : goal.invariant-loop-page
invariant-loop-page g l = record {
  index : l.index ≡ length (items_of (take l.page-index l.pages));
  from : l.from ≡ sum_by g.T.Spanned.places (items_of (take l.page-index l.pages));
  passed : l.from ≤ l.at;
  low : l.page-index ≤ l.index;
  least : l.fn.steps ≤ l.steps;
  most : l.steps ≤ l.fn.steps + l.page-index;
}
