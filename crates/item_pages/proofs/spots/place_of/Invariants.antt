use Rattle.std.proofs.Common.{◌≡◌, ◌+◌, length, take}
use Rattle.item_pages.specs.Packing.{items_of}
use Rattle.item_pages.proofs.spots.place_of.Given as goal

abbrev pub invariant-loop-part : goal.invariant-loop-part
invariant-loop-part g l = l.index ≡ length (items_of (take l.part l.blocks)) + l.left
