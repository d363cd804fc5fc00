use Rattle.std.proofs.Common.{◌≡◌, ◌≤◌, ◌+◌, take, sum_by}
use Rattle.item_pages.proofs.finding.find_in.Given as goal

abbrev pub invariant-loop-index : goal.invariant-loop-index
invariant-loop-index g l = record {
  from : l.from ≡ sum_by g.T.Spanned.places (take l.index l.items);
  passed : l.from ≤ l.at;
  least : l.fn.steps ≤ l.steps;
  most : l.steps ≤ l.fn.steps + l.index;
}
