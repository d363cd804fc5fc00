use Rattle.std.proofs.Common.{◌≡◌, take}
use Rattle.item_pages.proofs.blocks.shared_blocks.Given as goal

abbrev pub invariant-loop-block : goal.invariant-loop-block
invariant-loop-block g l = l.all.items ≡ take l.block-index l.blocks
