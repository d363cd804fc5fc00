use Rattle.std.proofs.Common.{◌≡◌, ◌+◌, ◌≤◌, length, take}
use Rattle.item_pages.specs.Packing.{items_of}
use Rattle.item_pages.proofs.spots.spot_of.Given as goal

abbrev pub invariant-loop-block : goal.invariant-loop-block
invariant-loop-block g l = record {
  place : l.index ≡ length (items_of (items_of (take l.block-index l.blocks))) + l.left;
  passed : l.passed ≡ length (items_of (take l.block-index l.blocks));
  few : l.passed + l.left ≤ l.index;
}
