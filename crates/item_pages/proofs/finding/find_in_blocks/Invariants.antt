use Rattle.std.proofs.Common.{◌≡◌, ◌≤◌, ◌+◌, length, take, sum_by}
use Rattle.item_pages.specs.Packing.{items_of}
use Rattle.item_pages.proofs.finding.find_in_blocks.Given as goal

abbrev pub invariant-loop-block : goal.invariant-loop-block
invariant-loop-block g l = record {
  index : l.index ≡ length (items_of (items_of (take l.block-index l.blocks)));
  from : l.from ≡ sum_by g.T.Spanned.places (items_of (items_of (take l.block-index l.blocks)));
  passed : l.from ≤ l.at;
  low : l.block-index ≤ l.index;
  pages : l.block-index ≤ length (items_of (take l.block-index l.blocks));
  least : l.fn.steps ≤ l.steps;
  most : l.steps ≤ l.fn.steps + l.block-index;
}
