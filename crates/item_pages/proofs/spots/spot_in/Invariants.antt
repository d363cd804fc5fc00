use Rattle.std.proofs.Common.{◌≡◌, ◌+◌, ◌≤◌, length, take}
use Rattle.item_pages.specs.Packing.{items_of}
use Rattle.item_pages.proofs.spots.spot_in.Given as goal

abbrev pub invariant-loop-part : goal.invariant-loop-part
invariant-loop-part g l = record {
  place : l.index ≡ length (items_of (take l.part l.pages)) + l.left;
  low : l.part + l.left ≤ l.index;
}
