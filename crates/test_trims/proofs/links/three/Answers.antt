use Rattle.composables.specs.Good.{IsGood}
use Rattle.test_trims.proofs.TestTracks.{all-more}
use Rattle.test_trims.proofs.links.three.Goals as goal

pub returns-clause-good : goal.returns-clause-good
returns-clause-good c =
    all-more (IsGood c.args.table.now) c.in-Some.named.items c.push.new.self.items c.in-Some-2.third (rw c.in-Some.is at c.in_ok-named.ensures.good) c.in_ok-push.ensures.items
    (rw c.in-Some-2.is at c.in_ok-third.ensures.good)
