use Rattle.link_groups.proofs.splits.split_from.Goals as goal

pub add_split-requires : goal.add_split-requires
add_split-requires g c = c.first.ensures c.args.y c.track-item.result
