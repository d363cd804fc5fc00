use Rattle.std.proofs.Common.{refl}
use Rattle.composables.specs.OwnTracks.{numbers_of}
use Rattle.test_trims.proofs.TestTracks.{named-two, two-own}
use Rattle.test_trims.proofs.links.with_two.Goals as goal

pub play-requires-clause-named : goal.play-requires-clause-named
play-requires-clause-named c = named-two (numbers_of c.in-Some.named.items) 3 (rw c.in-Some.is at c.in_ok-named.ensures.numbers) refl

pub play-requires-clause-own : goal.play-requires-clause-own
play-requires-clause-own c = two-own 0 3 refl refl
