use Rattle.std.proofs.Common.{Bool, ◌&&◌, ap, ◌∙◌, arith}
use Rattle.std.specs.List.{list_any}
use Rattle.composables.specs.Links.{cells_from}
use Rattle.link_groups.specs.Keys.{pair_key}
use Rattle.link_groups.specs.Splits.{has_key}
use Rattle.link_groups.proofs.SplitKeys.{ok-splits, sum-few, sum-sizes}
use Rattle.link_groups.proofs.splits.splits_at.Goals as goal

pub number_splits-requires-clause-marked : goal.number_splits-requires-clause-marked
number_splits-requires-clause-marked g c q e = c.all.ensures (pair_key q)

pub number_splits-requires-clause-few : goal.number_splits-requires-clause-few
number_splits-requires-clause-few g c = omega (arith, c.in_ok-split.ensures.few, sum-few c.args.named.now c.requires.room.items, c.requires.room.few)

pub returns-clause-most : goal.returns-clause-most
returns-clause-most g c = omega (arith, c.in_ok-before.ensures.most, c.in_ok-split.ensures.most, c.number_splits.ensures.most, c.in_ok-split.ensures.few, sum-sizes c.args.named.now)

pub returns-clause-splits : goal.returns-clause-splits
returns-clause-splits g c =
    ok-splits c.args.named.now c.args.x c.args.y c.in_ok-split.split c.number_splits.result
    (λ q. c.in_ok-split.ensures.links q ∙ ap (λ (b : Bool). b && list_any (has_key q) (cells_from c.args.y c.args.named.now)) (c.in_ok-before.ensures.marks q))
    c.number_splits.ensures.given c.number_splits.ensures.ordered
