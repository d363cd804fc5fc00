use Rattle.std.proofs.Common.{ap, arith}
use Rattle.std.proofs.lemmas.List.Sums.{sum_by_more_le}
use Rattle.composables.specs.Sizes.{size_of}
use Rattle.edit_splice.proofs.shifting.first_too_many.Goals as goal

pub returns-then-items_after-gt-MAX_ITEMS-clause-most :
    goal.returns-then-items_after-gt-MAX_ITEMS-clause-most
returns-then-items_after-gt-MAX_ITEMS-clause-most g c =
    omega (
      arith,
      c.items_after.ensures.most,
      c.loop-track.invariant.most,
      ap size_of c.track-item.is,
      sum_by_more_le size_of c.args.named.now c.loop-track.track-index c.track-item.result c.loop-track-test.true,
    )
