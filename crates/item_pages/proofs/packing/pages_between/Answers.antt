use Rattle.item_pages.proofs.Joining.{packed_alone}
use Rattle.item_pages.proofs.packing.pages_between.Goals as goal

pub push_items-requires-clause-packed : goal.push_items-requires-clause-packed
push_items-requires-clause-packed g c = rw c.in_ok-all.ensures (packed_alone c.args.near.now c.requires.alone)
